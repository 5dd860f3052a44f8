-- Laws of `round_root`, `sqrt` and `cbrt` as functions of a value: at the degree 1 `round_root` is
-- `round` (`round_root-one`), only the value of its fraction counts (`round_root-same`), and so the
-- root of a double goes by the double's value (`sqrt-zero`, `sqrt-of`, `sqrt_negative`,
-- `cbrt-zero`, `cbrt-of`, `cbrt-neg`). Assumes nothing.
use Prim.Native.Nat.compare
use Prim.Native.Nat.{ℕ, zero, suc, ◌+◌, ◌-◌, ◌*◌, ◌/◌, ◌%◌, ◌^◌, ◌<◌, compare}
use Prim.Native.Nat.{Ordering}
use mathlib.Core.Path.{◌≡◌, refl, sym, ap, ◌∙◌}
use mathlib.Core.Bool.{Bool, true, false, not, cond, true≢false, false≢true}
use native.Mathlib.Nat.{add-zero, add-suc, mul_assoc, mul_right_comm, one-mul, zero-lt-suc, mul-pos}
use native.Mathlib.Nat.{div-add-mod', div-one}
use native.Mathlib.Omega.{arith}
use lib.Dec.{ltb}
use lib.Pow.{pow_pos}
use lib.IntN.{ℤ}
use lib.Ieee.{Float, nan, inf, fin, Format, binary64, prec, emax, low, up, down, size, nearest, odd}
use lib.Ieee.{units, round, neg}
use lib.Ieee.Fits.{up_pos, down_pos, round_is}
use lib.Ieee.Exact.{HasValue}
use lib.Ieee.Nearest.{div_same}
use Rattle.ieee754.specs.Root.{root, round_root, sqrt, cbrt}
use Rattle.ieee754_parts.proofs.Nearest.{compare_same}
use Rattle.ieee754.proofs.PowerLaws.{pow-one}
use Rattle.ieee754.proofs.RootLaws.{dropped, dropped-drops, kept, core, round_root-is}
use Rattle.ieee754.proofs.RootLaws.{root_is, quotient-lt}

-- ---- only the value of the fraction counts

-- equal fractions keep the same number
pub kept_same : (p d n u m v : ℕ) → 0 < u → 0 < v → n * v ≡ m * u → kept p d n u ≡ kept p d m v
kept_same p d n u m v U W e =
    let q = root p d (m / v) in
    ap (λ (z : ℕ). nearest (root p d z) (compare (2 ^ p * n) ((2 * root p d z + 1) ^ p * u)))
    (div_same n u m v U W e)
    ∙ ap (nearest q) (compare_same (2 ^ p) ((2 * q + 1) ^ p) n u m v U W e)

pub round_root-same : (p : ℕ) (f : Format) (s : Bool) (a b c d : ℕ)
    → 0 < b
    → 0 < d
    → a * d ≡ c * b
    → round_root p f s a b ≡ round_root p f s c d
round_root-same p f s a b c d B D e =
    let l = 2 ^ (p * low f) in
    let h : a * l * d ≡ c * l * b =
    mul_right_comm a l d ∙ ap (λ (z : ℕ). z * l) e ∙ mul_right_comm c b l in
    let k = dropped p f (c * l) d in
    let x = b * 2 ^ (p * k) in
    let y = d * 2 ^ (p * k) in
    let X : 0 < x = mul-pos B (pow_pos (p * k)) in
    let Y : 0 < y = mul-pos D (pow_pos (p * k)) in
    let g : a * l * y ≡ c * l * x =
    sym (mul_assoc (a * l) d (2 ^ (p * k)))
    ∙ ap (λ (z : ℕ). z * 2 ^ (p * k)) h
    ∙ mul_assoc (c * l) b (2 ^ (p * k)) in
    round_root-is p f s a b
    ∙ ap (λ (z : ℕ). core p f s (a * l) (b * 2 ^ (p * z)) z)
    (ap (λ (z : ℕ). (size z + (p - 1)) / p - prec f) (div_same (a * l) b (c * l) d B D h))
    ∙ ap (λ (z : ℕ). units f s z k) (kept_same p (prec f) (a * l) x (c * l) y X Y g)
    ∙ sym (round_root-is p f s c d)

-- ---- at the degree 1 it is `round`

root-one : (k n : ℕ) → n < 2 ^ (1 * k) → root 1 k n ≡ n
root-one k n h = omega (arith, simp pow-one at (root_is 1 k n (zero-lt-suc 0) h))

compare-add : (a b c : ℕ) → compare (a + c) (b + c) ≡ compare a b
compare-add a b zero = simp add-zero
compare-add a b (suc c) = simp (add-suc, compare.suc-suc, compare-add a b c)

-- whether n / u lies above its whole part by more than a half
half-test : (n u : ℕ) → compare (2 * n) ((2 * (n / u) + 1) ^ 1 * u) ≡ compare (n % u * 2) u
half-test n u =
    let q = n / u in
    let l : 2 * n ≡ n % u * 2 + 2 * (q * u) = omega (arith, div-add-mod' n u) in
    let r : (2 * q + 1) ^ 1 * u ≡ u + 2 * (q * u) =
    ap (λ (x : ℕ). x * u) (pow-one (2 * q + 1)) ∙ omega arith in
    simp (l, r) (compare-add (n % u * 2) u (2 * (q * u)))

core-one : (f : Format) (s : Bool) (n u k : ℕ)
    → n / u < 2 ^ (1 * prec f)
    → core 1 f s n u k ≡ units f s (nearest (n / u) (compare (n % u * 2) u)) k
core-one f s n u k h =
    ap (λ (q : ℕ). units f s (nearest q (compare (2 * n) ((2 * q + 1) ^ 1 * u))) k)
    (root-one (prec f) (n / u) h)
    ∙ ap (λ (o : Ordering). units f s (nearest (n / u) o) k) (half-test n u)

dropped-one : (f : Format) (n den : ℕ) → dropped 1 f n den ≡ size (n / den) - prec f
dropped-one f n den = simp (add-zero, div-one)

pub round_root-one : (f : Format) (s : Bool) (num den : ℕ)
    → 0 < den
    → round_root 1 f s num den ≡ round f s num den
round_root-one f s num den D =
    let n = num * 2 ^ (1 * low f) in
    let k = dropped 1 f n den in
    round_root-is 1 f s num den
    ∙ core-one f s n (den * 2 ^ (1 * k)) k
    (quotient-lt 1 f n den k D (dropped-drops 1 f n den (zero-lt-suc 0) D).0)
    ∙ (simp (dropped-one, one-mul) (sym (round_is f s num den)))

-- ---- the root of a double, by its value

-- a value above 0 is no zero, and a value of 0 is one
no_zero : (e : ℤ) (a c : ℕ) → 0 < a → zero * up e * c ≡ a * down e → ⊥
no_zero e a c A h = omega (arith, h, mul-pos A (down_pos e))

no-digits : (m : ℕ) (e : ℤ) (a c : ℕ) → a ≡ 0 → 0 < c → suc m * up e * c ≡ a * down e → ⊥
no-digits m e a c A C h =
    omega (arith, h, ap (λ (x : ℕ). x * down e) A, mul-pos (mul-pos (zero-lt-suc m) (up_pos e)) C)

-- what gives back each zero gives back a value of 0
by_zero : (op : Float → Float)
    → ((t : Bool) (e : ℤ) → fin t zero e ≡ op (fin t zero e))
    → (x : Float) (s : Bool) (a c : ℕ)
    → a ≡ 0
    → 0 < c
    → HasValue x s a c
    → x ≡ op x
by_zero op z (fin t zero e) s a c A C v = z t e
by_zero op z (fin t (suc m) e) s a c A C v = absurd (no-digits m e a c A C v.1)
by_zero op z nan s a c A C v = elim v [ ]
by_zero op z (inf _) s a c A C v = elim v [ ]

pub sqrt-zero : (x : Float) (s : Bool) (a c : ℕ) → a ≡ 0 → 0 < c → HasValue x s a c → x ≡ sqrt x
unfolding sqrt
sqrt-zero = by_zero sqrt (λ t e. refl)

pub cbrt-zero : (x : Float) (s : Bool) (a c : ℕ) → a ≡ 0 → 0 < c → HasValue x s a c → x ≡ cbrt x
unfolding cbrt
cbrt-zero = by_zero cbrt (λ t e. refl)

pub sqrt-of : (x : Float) (a c : ℕ)
    → 0 < a
    → 0 < c
    → HasValue x false a c
    → sqrt x ≡ round_root 2 binary64 false a c
unfolding sqrt
sqrt-of (fin true m e) a c A C v = absurd (true≢false v.0)
sqrt-of (fin false zero e) a c A C v = absurd (no_zero e a c A v.1)
sqrt-of (fin false (suc m) e) a c A C v =
    round_root-same 2 binary64 false (suc m * up e) (down e) a c (down_pos e) C v.1
sqrt-of nan a c A C v = elim v [ ]
sqrt-of (inf _) a c A C v = elim v [ ]

pub sqrt_negative : (x : Float) (a c : ℕ) → 0 < a → HasValue x true a c → sqrt x ≡ nan
unfolding sqrt
sqrt_negative (fin true zero e) a c A v = absurd (no_zero e a c A v.1)
sqrt_negative (fin true (suc m) e) a c A v = refl
sqrt_negative (fin false m e) a c A v = absurd (false≢true v.0)
sqrt_negative nan a c A v = elim v [ ]
sqrt_negative (inf _) a c A v = elim v [ ]

pub cbrt-of : (x : Float) (s : Bool) (a c : ℕ)
    → 0 < a
    → 0 < c
    → HasValue x s a c
    → cbrt x ≡ round_root 3 binary64 s a c
unfolding cbrt
cbrt-of (fin t zero e) s a c A C v = absurd (no_zero e a c A v.1)
cbrt-of (fin t (suc m) e) s a c A C v =
    round_root-same 3 binary64 t (suc m * up e) (down e) a c (down_pos e) C v.1
    ∙ ap (λ (b : Bool). round_root 3 binary64 b a c) v.0
cbrt-of nan s a c A C v = elim v [ ]
cbrt-of (inf _) s a c A C v = elim v [ ]

-- ---- the sign goes through

odd-neg : (d : ℕ) (s : Bool) (q k l : ℕ) → odd d (not s) q k l ≡ neg (odd d s q k l)
unfolding odd neg
odd-neg d s zero k l = refl
odd-neg d s (suc q) k l = refl

units-neg : (f : Format) (s : Bool) (q k : ℕ) → units f (not s) q k ≡ neg (units f s q k)
unfolding units neg
units-neg f s q k = go (ltb (q * 2 ^ k) (2 ^ (low f + suc (emax f))))
  where
    go : (b : Bool)
        → cond b (odd (suc (prec f)) (not s) q k (low f)) (inf (not s))
        ≡ neg (cond b (odd (suc (prec f)) s q k (low f)) (inf s))
    go true = odd-neg (suc (prec f)) s q k (low f)
    go false = refl

round_root-neg : (p : ℕ) (f : Format) (s : Bool) (num den : ℕ)
    → round_root p f (not s) num den ≡ neg (round_root p f s num den)
unfolding round_root
round_root-neg p f s num den =
    let n = num * 2 ^ (p * low f) in
    let k = dropped p f n den in
    units-neg f s (kept p (prec f) n (den * 2 ^ (p * k))) k

pub cbrt-neg : (x : Float) → cbrt (neg x) ≡ neg (cbrt x)
unfolding cbrt neg
cbrt-neg nan = refl
cbrt-neg (inf s) = refl
cbrt-neg (fin s zero e) = refl
cbrt-neg (fin s (suc m) e) = round_root-neg 3 binary64 s (suc m * up e) (down e)
