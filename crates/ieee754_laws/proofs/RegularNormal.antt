-- The result of a regular operation is zero, of magnitude 2 ^ -1022 at least, an infinity or NaN:
-- none is subnormal (`add-normal`, `mul-normal`, and so for each operation that rounds). So the
-- square root of such a value, if not zero, lies far above 2 ^ -1022 (`sqrt-above`). Assumes
-- nothing.
use mathlib.Core.Path.{◌≡◌, refl, sym, ap, ◌∙◌, subst}
use mathlib.Core.Logic.{◌⊎◌, inl, inr}
use Prim.Native.Nat.{ℕ, zero, suc, ◌+◌, ◌-◌, ◌*◌, ◌/◌, ◌^◌, ◌≤◌, ◌<◌, compare}
use native.Mathlib.Nat.{zero-lt-suc, le_trans, le_of_eq, lt_of_le_of_lt, lt_of_lt_of_le, mul_assoc}
use native.Mathlib.Nat.{mul-pos, mul-le-mul_left, mul-le-mul_right, mul-lt-mul_of_pos_right}
use native.Mathlib.Nat.{lt_of_mul-lt-mul_right, le_of_mul-le-mul_right, le-mul_of_pos_right}
use native.Mathlib.Nat.{one-mul}
use native.Mathlib.Omega.{arith}
use mathlib.Core.Bool.{Bool, true, false, cond, ◌&&◌, ◌||◌, beq, true≢false}
use lib.Dec.{T, leb, ltb, eqb, leb→le, le→leb, lit≤, eqb-suc-zero}
use lib.Pow.{pow-add, pow_pos, pow_mono}
use lib.Ieee.{Float, nan, inf, fin, binary64, up, down, odd, units, round, sum, neg, add, sub, mul}
use lib.Ieee.{div, lt, of_bits, unlike}
use lib.Ieee.Fits.{down_pos, up_pos, and_r}
use lib.Ieee.Exact.{HasValue, odd_sign}
use lib.Ieee.Nearest.{nearest-ge}
use borrow.Author.Tests.{lt-ltb, le-ltb}
use Rattle.ieee754.specs.Literal.{double, min_positive}
use Rattle.ieee754.specs.Root.{root, round_root, sqrt, cbrt}
use Rattle.ieee754.specs.Fma.{fma}
use Rattle.ieee754.specs.Traced.{Traced, ◌⊕◌, in_range, magnitude, add_regular, mul_regular}
use Rattle.ieee754.specs.Traced.{div_regular, fma_regular, sqrt_regular, cbrt_regular}
use Rattle.ieee754.proofs.Tests.{or_right, cond_either}
use Rattle.ieee754.proofs.PowerLaws.{pow-shift, raised, pow-back}
use Rattle.ieee754.proofs.RootLaws.{dropped-drops, root-whole, round_root-is}
use Rattle.ieee754.proofs.RootValues.{round_root-one}
use Rattle.ieee754_laws.proofs.RoundScale.{Normal, zero-or-normal, least-units, drops-least}
use Rattle.ieee754_laws.proofs.RoundScale.{drop, keep, round_root-zero, round_root-value}

-- zero, of magnitude 2 ^ -1022 at least, infinite or NaN
abbrev pub zero_or_normal : Float → Bool
zero_or_normal nan = true
zero_or_normal (inf s) = true
zero_or_normal (fin s m e) = eqb m 0 || leb (down e) (m * up e * 2 ^ 1022)

-- ---- how large the root of n / c is, for n in p-th powers of the smallest value. w is its whole
-- part, in units of 2 ^ k.
whole_above : (p j n c k w : ℕ)
    → 2 ^ (p * j) * c ≤ n
    → 2 ^ p * n < (2 * suc w) ^ p * (c * 2 ^ (p * k))
    → 2 ^ j < suc w * 2 ^ k
whole_above p j n c k w h l =
    omega (
      arith,
      pow-back p c (2 * 2 ^ j) (2 * suc w * 2 ^ k) (lt_of_le_of_lt
          (le_trans (le_of_eq powers) (mul-le-mul_left (2 ^ p) h))
          (lt_of_lt_of_le l (le_of_eq (raised p (2 * suc w) k c)))),
    )
  where
    powers : (2 * 2 ^ j) ^ p * c ≡ 2 ^ p * (2 ^ (p * j) * c)
    powers = ap (λ (x : ℕ). x * c) (sym (pow-shift p 2 j)) ∙ mul_assoc (2 ^ p) (2 ^ (p * j)) c

-- the whole part of the root of a / c, in units of what is dropped
abbrev pub part : ℕ → ℕ → ℕ → ℕ
part p a c = root p 53 (a * 2 ^ (p * 1074) / (c * 2 ^ (p * drop p a c)))

module _ (p : ℕ) (P : 0 < p) (a c : ℕ) (C : 0 < c) (least : c ≤ a * 2 ^ (p * 1022)) where
  reach : (j : ℕ) → 2 ^ (p * j) * c ≤ a * 2 ^ (p * 1074) → 2 ^ j < suc (part p a c) * 2 ^ drop p a c
  reach j h =
      let n = a * 2 ^ (p * 1074) in
      let k = drop p a c in
      whole_above p j n c k (part p a c) h
      (root-whole p binary64 n c k P C (dropped-drops p binary64 n c P C).0).1

  -- it has 53 digits, and so has what is kept, which is no less
  pub whole-least : 2 ^ 52 ≤ part p a c
  whole-least =
      let n = a * 2 ^ (p * 1074) in
      let k = drop p a c in
      let all : 2 ^ (52 + k) < suc (part p a c) * 2 ^ k =
      reach (52 + k) (drops-least p binary64 n c k (least-units p a c least)
      (dropped-drops p binary64 n c P C).1) in
      let cut : 2 ^ 52 * 2 ^ k < suc (part p a c) * 2 ^ k =
      lt_of_le_of_lt (le_of_eq (sym (pow-add 2 52 k))) all in
      omega (arith, lt_of_mul-lt-mul_right (2 ^ k) cut)

  keep-ge : part p a c ≤ keep p a c
  keep-ge =
      let n = a * 2 ^ (p * 1074) in
      let u = c * 2 ^ (p * drop p a c) in
      nearest-ge (part p a c) (compare (2 ^ p * n) ((2 * part p a c + 1) ^ p * u))

  keep-least : 2 ^ 52 ≤ keep p a c
  keep-least = le_trans whole-least keep-ge

-- ---- a finite value of w units, w being z at least or more than that, where l is y * z: its
-- magnitude is 1 / y at least or more than that
value-ge : (d m y z l w : ℕ) → 0 < z → y * z ≡ l → m * l ≡ w * d → z ≤ w → d ≤ m * y
value-ge d m y z l w Z e v h =
    le_of_mul-le-mul_right (omega (arith, mul-le-mul_right d h, ap (λ (x : ℕ). m * x) e)) Z

value-gt : (d m y z l w : ℕ) → 0 < d → y * z ≡ l → m * l ≡ w * d → z < w → d < m * y
value-gt d m y z l w D e v h =
    lt_of_mul-lt-mul_right z (omega (arith, mul-lt-mul_of_pos_right h D, ap (λ (x : ℕ). m * x) e))

value-normal : (x : Float) (s : Bool) (w : ℕ)
    → HasValue x s w (2 ^ 1074)
    → 2 ^ 52 ≤ w
    → T (zero_or_normal x)
value-normal nan s w v h = tt
value-normal (inf t) s w v h = tt
value-normal (fin t m e) s w v h =
    or_right (eqb m 0) (leb (down e) (m * up e * 2 ^ 1022)) (le→leb (down e) (m * up e * 2 ^ 1022)
    (value-ge (down e) (m * up e) (2 ^ 1022) (2 ^ 52) (2 ^ 1074) w (pow_pos 52) refl v.1 h))

pub round_root-normal : (p : ℕ) (s : Bool) (a c : ℕ)
    → 0 < p
    → 0 < c
    → T (in_range p a c)
    → T (zero_or_normal (round_root p binary64 s a c))
round_root-normal p s a c P C r = go (zero-or-normal p a c r)
  where
    go : (a ≡ 0) ⊎ Normal p a c → T (zero_or_normal (round_root p binary64 s a c))
    go (inl z) = subst (λ (x : Float). T (zero_or_normal x)) (sym (round_root-zero p P s a c C z)) tt
    go (inr N) =
        let q = keep p a c in
        let k = drop p a c in
        value-normal (round_root p binary64 s a c) s (q * 2 ^ k) (round_root-value p P s a c C N)
        (le_trans (keep-least p P a c C N.least) (le-mul_of_pos_right q (pow_pos k)))

pub round-normal : (s : Bool) (a c : ℕ)
    → 0 < c
    → T (in_range 1 a c)
    → T (zero_or_normal (round binary64 s a c))
round-normal s a c C r =
    subst (λ (x : Float). T (zero_or_normal x))
    (round_root-one binary64 s a c C) (round_root-normal 1 s a c (zero-lt-suc 0) C r)

-- ---- the operations
pub mul-normal : (x y : Float) → T (mul_regular x y) → T (zero_or_normal (mul binary64 x y))
unfolding mul mul_regular
mul-normal nan y r = tt
mul-normal (inf s) nan r = tt
mul-normal (inf s) (inf t) r = tt
mul-normal (inf s) (fin t n d) r = cond_either (λ (z : Float). T (zero_or_normal z)) (eqb n 0) tt tt
mul-normal (fin s m e) nan r = tt
mul-normal (fin s m e) (inf t) r = cond_either (λ (z : Float). T (zero_or_normal z)) (eqb m 0) tt tt
mul-normal (fin s m e) (fin t n d) r = round-normal _ _ _ (mul-pos (down_pos e) (down_pos d)) r

pub div-normal : (x y : Float) → T (div_regular x y) → T (zero_or_normal (div binary64 x y))
unfolding div div_regular
div-normal nan y r = tt
div-normal (inf s) nan r = tt
div-normal (inf s) (inf t) r = tt
div-normal (inf s) (fin t n d) r = tt
div-normal (fin s m e) nan r = tt
div-normal (fin s m e) (inf t) r = tt
div-normal (fin s m e) (fin t zero d) r = absurd r
div-normal (fin s m e) (fin t (suc n) d) r =
    rw (eqb-suc-zero n) (round-normal _ _ _
    (mul-pos (mul-pos (zero-lt-suc n) (up_pos d)) (down_pos e)) (rw (eqb-suc-zero n) at r))

sum-normal : (s : Bool) (a : ℕ) (t : Bool) (b c : ℕ)
    → 0 < c
    → T (in_range 1 (magnitude s a t b) c)
    → T (zero_or_normal (sum binary64 s a t b c))
unfolding sum
sum-normal s a t b c C = go (beq s t) (ltb a b)
  where
    go : (x y : Bool)
        → T (in_range 1 (cond x (a + b) (cond y (b - a) (a - b))) c)
        → T (zero_or_normal (cond x (round binary64 s (a + b) c)
        (cond y (round binary64 t (b - a) c) (round binary64 (s && ltb b a) (a - b) c))))
    go true y = round-normal _ _ c C
    go false true = round-normal _ _ c C
    go false false = round-normal _ _ c C

pub add-normal : (x y : Float) → T (add_regular x y) → T (zero_or_normal (add binary64 x y))
unfolding add add_regular
add-normal nan y r = tt
add-normal (inf s) nan r = tt
add-normal (inf s) (inf t) r = cond_either (λ (z : Float). T (zero_or_normal z)) (beq s t) tt tt
add-normal (inf s) (fin t n d) r = tt
add-normal (fin s m e) nan r = tt
add-normal (fin s m e) (inf t) r = tt
add-normal (fin s m e) (fin t n d) r = sum-normal s _ t _ _ (mul-pos (down_pos e) (down_pos d)) r

pub sub-normal : (x y : Float) → T (add_regular x (neg y)) → T (zero_or_normal (sub binary64 x y))
unfolding sub
sub-normal x y r = add-normal x (neg y) r

-- a product with an infinity, as a term of a sum
special-normal : (b s : Bool) (z : Float) → T (zero_or_normal (add binary64 (cond b nan (inf s)) z))
unfolding add add_regular
special-normal b s z =
    cond_either (λ (p : Float). T (zero_or_normal (add binary64 p z))) b tt (add-normal (inf s) z tt)

pub fma-normal : (x y z : Float) → T (fma_regular x y z) → T (zero_or_normal (fma x y z))
unfolding fma fma_regular mul add
fma-normal nan y z r = tt
fma-normal (inf s) nan z r = tt
fma-normal (inf s) (inf t) z r = special-normal false (unlike s t) z
fma-normal (inf s) (fin t n d) z r = special-normal (eqb n 0) (unlike s t) z
fma-normal (fin s m e) nan z r = tt
fma-normal (fin s m e) (inf t) z r = special-normal (eqb m 0) (unlike s t) z
fma-normal (fin s m e) (fin t n d) nan r = tt
fma-normal (fin s m e) (fin t n d) (inf u) r = tt
fma-normal (fin s m e) (fin t n d) (fin u l g) r =
    sum-normal (unlike s t) _ u _ _ (mul-pos (mul-pos (down_pos e) (down_pos d)) (down_pos g)) r

pub sqrt-normal : (x : Float) → T (sqrt_regular x) → T (zero_or_normal (sqrt x))
unfolding sqrt sqrt_regular
sqrt-normal nan r = tt
sqrt-normal (inf false) r = tt
sqrt-normal (inf true) r = tt
sqrt-normal (fin s zero e) r = tt
sqrt-normal (fin true (suc m) e) r = tt
sqrt-normal (fin false (suc m) e) r = round_root-normal 2 _ _ _ (zero-lt-suc 1) (down_pos e) r

pub cbrt-normal : (x : Float) → T (cbrt_regular x) → T (zero_or_normal (cbrt x))
unfolding cbrt cbrt_regular
cbrt-normal nan r = tt
cbrt-normal (inf s) r = tt
cbrt-normal (fin s zero e) r = tt
cbrt-normal (fin s (suc m) e) r = round_root-normal 3 _ _ _ (zero-lt-suc 2) (down_pos e) r

-- ---- the square root of a value of 2 ^ -1022 at least lies above 2 ^ -1022
above-min : (x : Float) (w : ℕ)
    → HasValue x false w (2 ^ 1074)
    → 2 ^ 52 < w
    → lt min_positive x ≡ true
unfolding lt of_bits
above-min nan w v h = elim v [ ]
above-min (inf _) w v h = elim v [ ]
above-min (fin true m e) w v h = absurd (true≢false v.0)
above-min (fin false m e) w v h =
    let more : 1 * down e < m * up e * 2 ^ 1022 =
    lt_of_le_of_lt (le_of_eq (one-mul (down e)))
    (value-gt (down e) (m * up e) (2 ^ 1022) (2 ^ 52) (2 ^ 1074) w (down_pos e) refl v.1 h) in
    lt-ltb (1 * down e) (m * up e * 2 ^ 1022) more

units-above : (q k : ℕ) → 2 ^ 52 < q * 2 ^ k → lt min_positive (units binary64 false q k) ≡ true
unfolding units
units-above q k h = go (ltb (q * 2 ^ k) (2 ^ 2098))
  where
    go : (b : Bool) → lt min_positive (cond b (odd 54 false q k 1074) (inf false)) ≡ true
    go true = above-min (odd 54 false q k 1074) (q * 2 ^ k) (odd_sign 54 false q k 1074) h
    go false = unfold lt in unfold of_bits in refl

none : (a x y : ℕ) → ltb a (0 * x * y) ≡ false
none a x y = le-ltb a (0 * x * y) (omega arith)

some : (d a : ℕ) → 0 < a → 0 * d < a * 1
some d a h = omega arith

-- so the test `norm > f64::MIN_POSITIVE` on the root of such a value asks only whether the value is
-- above zero
pub sqrt-above : (x : Float) → T (zero_or_normal x) → lt min_positive (sqrt x) ≡ lt (double 0) x
unfolding lt sqrt of_bits
sqrt-above nan r = refl
sqrt-above (inf false) r = refl
sqrt-above (inf true) r = refl
sqrt-above (fin false zero e) r =
    none (1 * down e) (up e) (2 ^ 1022) ∙ sym (none (0 * down e) (up e) 1)
sqrt-above (fin true zero e) r = refl
sqrt-above (fin true (suc m) e) r = refl
sqrt-above (fin false (suc m) e) r =
    let a = suc m * up e in
    let c = down e in
    let q = keep 2 a c in
    let k = drop 2 a c in
    let least : c ≤ a * 2 ^ 1022 = leb→le c (a * 2 ^ 1022) (rw (eqb-suc-zero m) at r) in
    let least2 : c ≤ a * 2 ^ (2 * 1022) =
    le_trans least (mul-le-mul_left a (pow_mono {i = 1022} {j = 2044} (lit≤ tt))) in
    let far : 2 ^ 563 < suc (part 2 a c) * 2 ^ k =
    reach 2 (zero-lt-suc 1) a c (down_pos e) least2 563
    (times c a (2 ^ 1022) (2 ^ 1126) (2 ^ 2148) refl least) in
    let one : 1 ≤ q =
    le_trans (pow_pos 52) (keep-least 2 (zero-lt-suc 1) a c (down_pos e) least2) in
    let root : lt min_positive (round_root 2 binary64 false a c) ≡ true =
    ap (λ (x : Float). lt min_positive x) (round_root-is 2 binary64 false a c)
    ∙ units-above q k (enough (part 2 a c) q (2 ^ k) (2 ^ 563) (2 ^ 52) far
    (keep-ge 2 (zero-lt-suc 1) a c (down_pos e) least2) one (lit≤ tt)) in
    root ∙ sym (lt-ltb (0 * down e) (a * 1) (some (down e) a (mul-pos (zero-lt-suc m) (up_pos e))))
  where
    times : (c a x y z : ℕ) → x * y ≡ z → c ≤ a * x → y * c ≤ a * z
    times c a x y z e h = omega (arith, mul-le-mul_right y h, ap (λ (w : ℕ). a * w) e)

    enough : (w q u j b : ℕ) → j < suc w * u → w ≤ q → 1 ≤ q → 2 * b ≤ j → b < q * u
    enough w q u j b h g o l = omega (arith, mul-le-mul_right u o, mul-le-mul_right u g)

-- ---- the same of a lifted sum
pub ⊕-normal : (x y : Traced Float) → T (x ⊕ y).regular → T (zero_or_normal (x ⊕ y).value)
⊕-normal x y r =
    add-normal x.value y.value
    (and_r (x.regular && y.regular) (add_regular x.value y.value) r)
