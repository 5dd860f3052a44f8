-- The law of rounding under scaling, once for every degree p of a root: 2 ^ (p * t) times a
-- radicand gives 2 ^ t times its root, for a whole number t of either sign, where both roots are
-- zero or in range (`in_range` of Traced). At p = 1 it is a law of lib.Ieee's `round`
-- (`round-scale`). All the laws on operations follow from these two. Assumes nothing.
use mathlib.Core.Path.{◌≡◌, refl, sym, ap, ◌∙◌, subst}
use mathlib.Core.Logic.{◌⊎◌, inl, inr}
use Prim.Native.Nat.{ℕ, zero, suc, ◌+◌, ◌-◌, ◌*◌, ◌/◌, ◌^◌, ◌≤◌, ◌<◌}
use native.Mathlib.Nat.{lt_irrefl, zero-lt-suc, le_refl, le_trans, le_of_eq, add-zero, add_assoc}
use native.Mathlib.Nat.{add_right_comm, lt_of_lt_of_le, lt_of_le_of_lt, mul_assoc, mul_comm}
use native.Mathlib.Nat.{mul_left_comm, mul_right_comm, mul-add, mul-pos, mul-zero, zero-mul}
use native.Mathlib.Nat.{one-le-pow, mul-le-mul_left, mul-le-mul_right, mul-lt-mul_of_pos_left}
use native.Mathlib.Nat.{mul-lt-mul_of_pos_right, lt_of_mul-lt-mul_right, eq_of_mul-eq-mul_right}
use native.Mathlib.Nat.{le_of_mul-le-mul_right}
use native.Mathlib.Omega.{arith}
use mathlib.Core.Bool.{Bool, true, false, ◌&&◌, ◌||◌}
use lib.IntN.{ℤ, pos, negsuc, ◌+ℤ◌, ◌*ℤ◌, +ℤ_assoc, +ℤ_idr, +ℤ_invr}
use lib.Dec.{T, leb, ltb, eqb, leb→le, ltb→lt, eqb→eq}
use lib.Pow.{pow-add, pow_pos, pow_mono}
use lib.Count.{count_trailing_zeros}
use lib.Ieee.{Float, nan, inf, fin, Format, binary64, prec, up, down, minus, odd, units, round}
use lib.Ieee.Digits.{odd_val}
use lib.Ieee.Fits.{down_pos}
use lib.Ieee.Exact.{HasValue, odd_sign}
use lib.Ieee.Positive.{first_pos}
use borrow.Author.Tests.{lt-ltb}
use Rattle.ieee754.specs.Root.{round_root}
use Rattle.ieee754.specs.Traced.{in_range}
use Rattle.ieee754.specs.Scaling.{scale, moved}
use Rattle.ieee754_parts.proofs.Sizes.{exponent_lt}
use Rattle.ieee754.proofs.PowerLaws.{pow-mul, pow-shift, raised, double-pow, split-pow, pow-back}
use Rattle.ieee754.proofs.RootLaws.{Drops, dropped, dropped-drops, drops-dropped, kept}
use Rattle.ieee754.proofs.RootLaws.{round_root-is, kept_near}
use Rattle.ieee754.proofs.RootValues.{kept_same, round_root-same, round_root-one}
use Rattle.ieee754_parts.proofs.Sums.{sub-mul}
use Rattle.ieee754_laws.proofs.Powers.{Ratio, moved-ratio, minus-add, ℤ-once, up-negative}
use Rattle.ieee754_laws.proofs.Powers.{down-negative}

-- ---- the root of a normal fraction is not rounded up to 2 ^ 1024

-- the p-th root of a / c lies from 2 ^ -1022 up and below 2 ^ 1024 - 2 ^ 970
pub record Normal (p a c : ℕ) : Type 0 where
  pub least : c ≤ a * 2 ^ (p * 1022)
  pub most : a < c * (2 ^ 1024 - 2 ^ 970) ^ p

-- The result is q * 2 ^ k units, with k digits dropped. By E, the range's upper end in units,
-- q * 2 ^ k is below B, since E is half of the last unit below B.
module _ (p q k n c E W B j : ℕ) (most : n < c * E ^ p) (gap : 2 * E + W ≡ 2 * B) (half : 2 ^ j ≡ W)
    (top : 2 ^ (52 + suc j) ≡ B) where
  -- no more than j digits are dropped
  few : (k ≡ 0) ⊎ (2 ^ (p * (52 + k)) * c ≤ n) → 2 ^ k ≤ W
  few (inl z) = le_trans (le_of_eq (ap (λ (x : ℕ). 2 ^ x) z)) (le_trans (pow_pos j) (le_of_eq half))
  few (inr l) = le_trans (pow_mono (omega (arith, below))) (le_of_eq half)
    where
      under : 2 ^ (52 + k) < E
      under =
          pow-back p c (2 ^ (52 + k)) E (lt_of_le_of_lt
          (le_trans (le_of_eq (ap (λ (x : ℕ). x * c) (pow-mul 2 (52 + k) p))) l)
          (lt_of_lt_of_le most (le_of_eq (mul_comm c (E ^ p)))))

      below : 52 + k < 52 + suc j
      below =
          exponent_lt (52 + k) (52 + suc j) (le_refl (2 ^ (52 + k)))
          (lt_of_lt_of_le under (le_trans (omega arith) (le_of_eq (sym top))))

  in-units : (2 * q - 1) ^ p * (c * 2 ^ (p * k)) ≤ 2 ^ p * n → (2 * q - 1) * 2 ^ k < 2 * E
  in-units h =
      pow-back p c ((2 * q - 1) * 2 ^ k) (2 * E)
      (lt_of_le_of_lt (le_trans (le_of_eq (sym (raised p (2 * q - 1) k c))) h)
      (lt_of_lt_of_le (mul-lt-mul_of_pos_left most (pow_pos p))
      (le_of_eq (ap (λ (x : ℕ). 2 ^ p * x) (mul_comm c (E ^ p)) ∙ double-pow p E c))))

  below_top : (k ≡ 0) ⊎ (2 ^ (p * (52 + k)) * c ≤ n)
      → (2 * q - 1) ^ p * (c * 2 ^ (p * k)) ≤ 2 ^ p * n
      → q * 2 ^ k < B
  below_top d h = omega (arith, few d, in-units h, sub-mul (2 * q) 1 (2 ^ k))

-- ---- in the normal range 2 ^ (p * t) times a radicand has a root of t more digits, and the same
-- leading ones

higher : (p a k t den : ℕ) → 2 ^ (p * (a + (k + t))) * den ≡ 2 ^ (p * (a + k)) * den * 2 ^ (p * t)
higher p a k t den =
    ap (λ (x : ℕ). 2 ^ (p * x) * den) (sym (add_assoc a k t))
    ∙ split-pow p (a + k) t den
    ∙ sym (mul_assoc (2 ^ (p * (a + k))) den (2 ^ (p * t)))

-- where the root has all the format's digits, the second bound holds also where no digit is dropped
pub drops-least : (p : ℕ) (f : Format) (n den k : ℕ)
    → 2 ^ (p * (prec f - 1)) * den ≤ n
    → (k ≡ 0) ⊎ (2 ^ (p * (prec f - 1 + k)) * den ≤ n)
    → 2 ^ (p * (prec f - 1 + k)) * den ≤ n
drops-least p f n den k N (inl z) =
    le_trans (le_of_eq
    (ap (λ (x : ℕ). 2 ^ (p * x) * den) (ap (λ (x : ℕ). prec f - 1 + x) z ∙ add-zero (prec f - 1))))
    N
drops-least p f n den k N (inr l) = l

drops-scale : (p : ℕ) (f : Format) (n den k t : ℕ)
    → 2 ^ (p * (prec f - 1)) * den ≤ n
    → Drops p f n den k
    → Drops p f (n * 2 ^ (p * t)) den (k + t)
drops-scale p f n den k t N d = (
  rw higher (mul-lt-mul_of_pos_right d.0 (pow_pos (p * t))),
  inr (rw higher (mul-le-mul_right (2 ^ (p * t)) (drops-least p f n den k N d.1))),
)

kept_scale : (p n den k t : ℕ)
    → 0 < den
    → kept p 53 (n * 2 ^ (p * t)) (den * 2 ^ (p * (k + t))) ≡ kept p 53 n (den * 2 ^ (p * k))
kept_scale p n den k t D =
    kept_same p 53 (n * 2 ^ (p * t)) (den * 2 ^ (p * (k + t))) n (den * 2 ^ (p * k))
    (mul-pos D (pow_pos (p * (k + t)))) (mul-pos D (pow_pos (p * k)))
    (simp (mul-add, pow-add, mul_assoc, mul_comm, mul_left_comm))

-- ---- `odd` writes the exponent last: t more of it are 2 ^ t times the value
moved-is : (t : ℤ) (m : ℕ) (e : ℤ) → 0 < m → moved t m e ≡ e +ℤ t
moved-is t zero e h = absurd (lt_irrefl 0 h)
moved-is t (suc m) e h = refl

odd-scale : (d : ℕ) (s : Bool) (q k l t : ℕ) → odd d s q (k + t) l ≡ scale (pos t) (odd d s q k l)
unfolding odd scale
odd-scale d s zero k l t = refl
odd-scale d s (suc q) k l t =
    let z = count_trailing_zeros d (suc q) in
    let m = suc q / 2 ^ z in
    let e = minus (k + z) l in
    let M : 0 < m =
    first_pos m (up e) (first_pos (m * up e) (2 ^ l) (subst (λ (x : ℕ). 0 < x)
    (sym (odd_val d s (suc q) k l))
    (mul-pos (mul-pos (zero-lt-suc q) (pow_pos k)) (down_pos e)))) in
    ap (λ (x : ℤ). fin s m x)
    (ap (λ (x : ℕ). minus x l) (add_right_comm k t z)
    ∙ minus-add (k + z) t l
    ∙ sym (moved-is (pos t) m e M))

-- ---- in range, `round_root` hands `odd` what it keeps
pub units-odd : (s : Bool) (q k : ℕ)
    → q * 2 ^ k < 2 ^ 2098
    → units binary64 s q k ≡ odd 54 s q k 1074
unfolding units
units-odd s q k h = rw (lt-ltb (q * 2 ^ k) (2 ^ 2098) h)

-- the range's two ends, in units
most-units : (p a c M : ℕ) → a < c * M ^ p → a * 2 ^ (p * 1074) < c * (M * 2 ^ 1074) ^ p
most-units p a c M h =
    lt_of_lt_of_le (mul-lt-mul_of_pos_right h (pow_pos (p * 1074)))
    (le_of_eq (mul_assoc c (M ^ p) (2 ^ (p * 1074)) ∙ ap (λ (z : ℕ). c * z) (pow-shift p M 1074)))

pub least-units : (p a c : ℕ) → c ≤ a * 2 ^ (p * 1022) → 2 ^ (p * 52) * c ≤ a * 2 ^ (p * 1074)
least-units p a c h =
    let e : p * 1074 ≡ p * 52 + p * 1022 = omega arith in
    le_trans (mul-le-mul_left (2 ^ (p * 52)) h) (le_of_eq (mul_left_comm (2 ^ (p * 52)) a
    (2 ^ (p * 1022))
    ∙ ap (λ (z : ℕ). a * z) (sym (ap (λ (z : ℕ). 2 ^ z) e ∙ pow-add 2 (p * 52) (p * 1022)))))

-- how many digits are dropped, and the number kept, of a / c
abbrev pub drop : ℕ → ℕ → ℕ → ℕ
drop p a c = dropped p binary64 (a * 2 ^ (p * 1074)) c

abbrev pub keep : ℕ → ℕ → ℕ → ℕ
keep p a c = kept p 53 (a * 2 ^ (p * 1074)) (c * 2 ^ (p * drop p a c))

module _ (p : ℕ) (P : 0 < p) (s : Bool) where
  pub round_root-odd : (a c : ℕ)
      → 0 < c
      → Normal p a c
      → round_root p binary64 s a c ≡ odd 54 s (keep p a c) (drop p a c) 1074
  round_root-odd a c C N =
      let n = a * 2 ^ (p * 1074) in
      let E = (2 ^ 1024 - 2 ^ 970) * 2 ^ 1074 in
      round_root-is p binary64 s a c
      ∙ units-odd s (keep p a c) (drop p a c)
      (below_top p (keep p a c) (drop p a c) n c E (2 ^ 2045) (2 ^ 2098) 2045
      (most-units p a c (2 ^ 1024 - 2 ^ 970) N.most) refl refl refl
      (dropped-drops p binary64 n c P C).1 (kept_near p binary64 n c P C).0)

  pub round_root-value : (a c : ℕ)
      → 0 < c
      → Normal p a c
      → HasValue (round_root p binary64 s a c) s (keep p a c * 2 ^ drop p a c) (2 ^ 1074)
  round_root-value a c C N =
      subst (λ (x : Float). HasValue x s (keep p a c * 2 ^ drop p a c) (2 ^ 1074))
      (sym (round_root-odd a c C N)) (odd_sign 54 s (keep p a c) (drop p a c) 1074)

  round_root-up : (a c t : ℕ)
      → 0 < c
      → Normal p a c
      → Normal p (a * 2 ^ (p * t)) c
      → round_root p binary64 s (a * 2 ^ (p * t)) c ≡ scale (pos t) (round_root p binary64 s a c)
  round_root-up a c t C N N' =
      let n = a * 2 ^ (p * 1074) in
      let k = drop p a c in
      let more : dropped p binary64 (n * 2 ^ (p * t)) c ≡ k + t =
      drops-dropped p binary64 (n * 2 ^ (p * t)) c (k + t) P C (drops-scale p binary64 n c k t
      (least-units p a c N.least) (dropped-drops p binary64 n c P C)) in
      round_root-odd (a * 2 ^ (p * t)) c C N'
      ∙ ap (λ (x : ℕ).
      odd 54 s (kept p 53 x (c * 2 ^ (p * dropped p binary64 x c))) (dropped p binary64 x c) 1074)
      (mul_right_comm a (2 ^ (p * t)) (2 ^ (p * 1074)))
      ∙ ap (λ (x : ℕ). odd 54 s (kept p 53 (n * 2 ^ (p * t)) (c * 2 ^ (p * x))) x 1074) more
      ∙ ap (λ (x : ℕ). odd 54 s x (k + t) 1074) (kept_scale p n c k t C)
      ∙ odd-scale 54 s (keep p a c) k 1074 t
      ∙ sym (ap (λ (x : Float). scale (pos t) x) (round_root-odd a c C N))

-- ---- `scale t` is a multiplication by 2 ^ t, which is the fraction up t / down t. It adds up, and
-- undoes itself.
pub scale-value : (t : ℤ) (x : Float) (s : Bool) (a c : ℕ)
    → HasValue x s a c
    → HasValue (scale t x) s (a * up t) (c * down t)
unfolding scale
scale-value t nan s a c v = v
scale-value t (inf b) s a c v = v
scale-value t (fin b m e) s a c v =
    let e' = moved t m e in (
      v.0,
      eq_of_mul-eq-mul_right (down e) (down_pos e) (m * up e' * (c * down t)) (a * up t * down e')
          (through (m * up e') (m * up e) (down e) (down e') (up t) (down t) a c v.1
          (moved-ratio t m e).cross),
    )
  where
    through : (x y d d' u w a c : ℕ)
        → y * c ≡ a * d
        → x * (d * w) ≡ y * (d' * u)
        → x * (c * w) * d ≡ a * u * d' * d
    through x y d d' u w a c h k =
        omega (arith, ap (λ (z : ℕ). c * z) k, ap (λ (z : ℕ). z * (d' * u)) h)

pub scale-scale : (t u : ℤ) (x : Float) → scale t (scale u x) ≡ scale (u +ℤ t) x
unfolding scale
scale-scale t u nan = refl
scale-scale t u (inf s) = refl
scale-scale t u (fin s zero e) = refl
scale-scale t u (fin s (suc m) e) = ap (λ (x : ℤ). fin s (suc m) x) (+ℤ_assoc e u t)

pub scale-zero : (x : Float) → scale (pos 0) x ≡ x
unfolding scale
scale-zero nan = refl
scale-zero (inf s) = refl
scale-zero (fin s zero e) = refl
scale-zero (fin s (suc m) e) = ap (λ (x : ℤ). fin s (suc m) x) (+ℤ_idr e)

-- ---- the law
pub zero-or-normal : (p a c : ℕ) → T (in_range p a c) → (a ≡ 0) ⊎ Normal p a c
unfolding in_range
zero-or-normal p a c =
    go (eqb a 0) (leb c (a * 2 ^ (p * 1022))) (ltb a (c * (2 ^ 1024 - 2 ^ 970) ^ p)) (eqb→eq a 0)
    (leb→le c (a * 2 ^ (p * 1022))) (ltb→lt a (c * (2 ^ 1024 - 2 ^ 970) ^ p))
  where
    go : (x y z : Bool)
        → (T x → a ≡ 0)
        → (T y → c ≤ a * 2 ^ (p * 1022))
        → (T z → a < c * (2 ^ 1024 - 2 ^ 970) ^ p)
        → T (x || (y && z))
        → (a ≡ 0) ⊎ Normal p a c
    go true y z f g h r = inl (f tt)
    go false true true f g h r = inr (record { least = g tt; most = h tt })
    go false true false f g h r = absurd r
    go false false z f g h r = absurd r

module _ (p : ℕ) (P : 0 < p) (s : Bool) where
  -- the root of zero is the zero with the sign s
  near-zero : (c q : ℕ) → 0 < c → (2 * q - 1) ^ p * c ≤ 2 ^ p * 0 → q ≡ 0
  near-zero c q C h =
      omega (
        arith,
        pow-back p c (2 * q - 1) 1 (lt_of_le_of_lt (le_trans h (le_of_eq (mul-zero (2 ^ p))))
            (mul-pos (one-le-pow p 1 (zero-lt-suc 0)) C)),
      )

  pub round_root-zero : (a c : ℕ) → 0 < c → a ≡ 0 → round_root p binary64 s a c ≡ fin s 0 (pos 0)
  unfolding odd
  round_root-zero a c C z =
      let k = drop p a c in
      let none : a * 2 ^ (p * 1074) ≡ 0 =
      ap (λ (x : ℕ). x * 2 ^ (p * 1074)) z ∙ zero-mul (2 ^ (p * 1074)) in
      let q : keep p a c ≡ 0 =
      near-zero (c * 2 ^ (p * k)) (keep p a c) (mul-pos C (pow_pos (p * k)))
      (le_trans (kept_near p binary64 (a * 2 ^ (p * 1074)) c P C).0
      (le_of_eq (ap (λ (x : ℕ). 2 ^ p * x) none))) in
      round_root-is p binary64 s a c
      ∙ ap (λ (x : ℕ). units binary64 s x k) q
      ∙ units-odd s 0 k (lt_of_le_of_lt (le_of_eq (zero-mul (2 ^ k))) (pow_pos 2098))

  -- equal fractions are normal alike; the ends are variables, since `omega` reads no number of 300
  -- digits
  normal-same : (a c b d : ℕ) → 0 < c → 0 < d → a * d ≡ b * c → Normal p a c → Normal p b d
  normal-same a c b d C D e N = record {
    least = least-same (2 ^ (p * 1022)) N.least;
    most = most-same ((2 ^ 1024 - 2 ^ 970) ^ p) N.most;
  }
    where
      least-same : (x : ℕ) → c ≤ a * x → d ≤ b * x
      least-same x h =
          le_of_mul-le-mul_right (omega (arith, mul-le-mul_right d h, ap (λ (z : ℕ). z * x) e)) C

      most-same : (x : ℕ) → a < c * x → b < d * x
      most-same x h =
          lt_of_mul-lt-mul_right c
          (omega (arith, mul-lt-mul_of_pos_right h D, ap (λ (z : ℕ). z * x) e))

  raise : (a c a' c' t : ℕ)
      → 0 < c
      → 0 < c'
      → T (in_range p a c)
      → T (in_range p a' c')
      → a' * c ≡ a * 2 ^ (p * t) * c'
      → round_root p binary64 s a' c' ≡ scale (pos t) (round_root p binary64 s a c)
  unfolding scale
  raise a c a' c' t C C' r r' e = go (zero-or-normal p a c r) (zero-or-normal p a' c' r')
    where
      both_zero : a ≡ 0
          → a' ≡ 0
          → round_root p binary64 s a' c' ≡ scale (pos t) (round_root p binary64 s a c)
      both_zero z z' =
          round_root-zero a' c' C' z'
          ∙ ap (λ (x : Float). scale (pos t) x) (sym (round_root-zero a c C z))

      go : (a ≡ 0) ⊎ Normal p a c
          → (a' ≡ 0) ⊎ Normal p a' c'
          → round_root p binary64 s a' c' ≡ scale (pos t) (round_root p binary64 s a c)
      go (inl z) y =
          both_zero z (eq_of_mul-eq-mul_right c C a' 0
          (e ∙ ap (λ (x : ℕ). x * 2 ^ (p * t) * c') z ∙ omega arith))
      go (inr N) (inl z) =
          both_zero (eq_of_mul-eq-mul_right (2 ^ (p * t) * c') (mul-pos (pow_pos (p * t)) C') a 0
          (sym (mul_assoc a (2 ^ (p * t)) c') ∙ sym e ∙ ap (λ (x : ℕ). x * c) z ∙ omega arith)) z
      go (inr N) (inr N') =
          round_root-same p binary64 s a' c' (a * 2 ^ (p * t)) c C' C e
          ∙ round_root-up p P s a c t C N (normal-same a' c' (a * 2 ^ (p * t)) c C' C e N')

  -- for a negative t the two fractions change places
  pub round_root-scale : (t : ℤ) {a c a' c' : ℕ}
      → Ratio (pos p *ℤ t) a c a' c'
      → T (in_range p a c)
      → T (in_range p a' c')
      → round_root p binary64 s a' c' ≡ scale t (round_root p binary64 s a c)
  round_root-scale (pos t) {a} {c} {a'} {c'} q r r' =
      raise a c a' c' t q.den q.den' r r' (omega arith)
  round_root-scale (negsuc t) {a} {c} {a'} {c'} q r r' =
      let x = round_root p binary64 s a' c' in
      sym (ap (λ (y : Float). scale (negsuc t) y)
      (raise a' c' a c (suc t) q.den' q.den r' r (omega (
        arith,
        ap (λ (z : ℕ). a' * (c * z)) (down-negative (p * suc t)),
        ap (λ (z : ℕ). a * (c' * z)) (up-negative (p * suc t)),
      )))
      ∙ scale-scale (negsuc t) (pos (suc t)) x
      ∙ ap (λ (u : ℤ). scale u x) (+ℤ_invr (pos (suc t)))
      ∙ scale-zero x)

pub round-scale : (s : Bool) {t : ℤ} {a c a' c' : ℕ}
    → Ratio t a c a' c'
    → T (in_range 1 a c)
    → T (in_range 1 a' c')
    → round binary64 s a' c' ≡ scale t (round binary64 s a c)
round-scale s {t} {a} {c} {a'} {c'} q r r' =
    sym (round_root-one binary64 s a' c' q.den')
    ∙ round_root-scale 1 (zero-lt-suc 0) s t
    (subst (λ (u : ℤ). Ratio u a c a' c') (sym (ℤ-once t)) q) r r'
    ∙ ap (λ (x : Float). scale t x) (round_root-one binary64 s a c q.den)
