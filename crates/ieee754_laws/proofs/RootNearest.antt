-- The root of a double is the nearest double, and no two are equally near: `sqrt-nearest`,
-- `cbrt-nearest`. Numbers of smallest values 2 ^ -1074 stand for the doubles, and powers for the
-- roots, so that all is said of whole numbers. Assumes nothing.
use mathlib.Core.Path.{◌≡◌, refl, sym, ap, ◌∙◌, subst}
use mathlib.Core.Logic.{⊎_elim}
use Prim.Native.Nat.{ℕ, zero, suc, ◌+◌, ◌-◌, ◌*◌, ◌^◌, ◌≤◌, ◌<◌, compare, Ordering}
use native.Mathlib.Nat.{le_trans, le_of_eq, le_of_lt, lt_of_lt_of_le, lt_of_le_of_lt, not-le_of_lt}
use native.Mathlib.Nat.{zero-lt-suc, lt-suc_self, le_of_suc-le-suc, sub-add_cancel, mul-one}
use native.Mathlib.Nat.{mul_assoc, mul_left_comm, mul-pos, mul-le-mul_right}
use native.Mathlib.Nat.{mul-lt-mul_of_pos_right, lt_irrefl, lt_of_mul-lt-mul_right}
use native.Mathlib.Nat.{eq_of_mul-eq-mul_right, pow-le-pow_left, pow-lt-pow_left, one-mul}
use native.Mathlib.Omega.{arith}
use mathlib.Core.Bool.{Bool, true, false}
use lib.IntN.{ℤ, pos, negsuc}
use lib.Dec.{T}
use lib.Pow.{pow-add, pow_pos, pow-lt, shl_lt}
use lib.Ieee.{Float, nan, inf, fin, binary64, up, down, nearest, fits}
use lib.Ieee.Fits.{up_pos, down_pos}
use lib.Ieee.Exact.{HasValue}
use lib.Ieee.Positive.{num, den, positive}
use Rattle.ieee754.specs.Magnitude.{abs}
use Rattle.ieee754.specs.CopySign.{negative}
use Rattle.ieee754.specs.Root.{round_root, sqrt, cbrt}
use Rattle.ieee754.specs.Traced.{in_range, sqrt_regular, cbrt_regular}
use Rattle.ieee754_parts.proofs.Tests.{lt-or-ge}
use Rattle.ieee754_parts.proofs.Nearest.{Compared, compared}
use Rattle.ieee754_parts.proofs.Sizes.{shl-shl, exponent_lt}
use Rattle.ieee754.proofs.PowerLaws.{raised, odd_pow, le-pow}
use Rattle.ieee754.proofs.RootLaws.{dropped-drops, root-whole}
use Rattle.ieee754_laws.proofs.RoundScale.{Normal, zero-or-normal, drop, keep}
use Rattle.ieee754_laws.proofs.RoundScale.{round_root-value}
use Rattle.ieee754_laws.proofs.RegularNormal.{part, whole-least}
use Rattle.ieee754.proofs.Unique.{fits-parts, odd-once}
use Rattle.ieee754_laws.proofs.RootRegular.{sqrt-regular, cbrt-regular}

-- ---- what is said

-- The p-th root of a / c lies nearer to r smallest values than to b of them: on r's side of their
-- middle (r + b) / 2
pub record Nearer (p a c r b : ℕ) : Type 0 where
  pub below : b < r → (r + b) ^ p * c < 2 ^ p * (a * 2 ^ (p * 1074))
  pub above : r < b → 2 ^ p * (a * 2 ^ (p * 1074)) < (r + b) ^ p * c

-- x is finite, of the sign s, and the p-th root of a / c lies nearer to its magnitude than to that
-- of any other double
pub record NearestRoot (p : ℕ) (s : Bool) (a c : ℕ) (x : Float) : Type 0 where
  pub magnitude : ℕ
  pub value : HasValue x s magnitude (2 ^ 1074)
  pub nearer : (y : Float) (t : Bool) (b : ℕ)
      → T (fits binary64 y)
      → HasValue y t b (2 ^ 1074)
      → Nearer p a c magnitude b

-- ---- a double is m * 2 ^ i smallest values, with m of 53 digits at most. So from 2 ^ (52 + k) of
-- them on it is a multiple of 2 ^ k.
pub record Whole (b : ℕ) : Type 0 where
  pub digits : ℕ
  pub exponent : ℕ
  pub short : digits < 2 ^ 53
  pub is : b ≡ digits * 2 ^ exponent

double-whole : (y : Float) (t : Bool) (b : ℕ)
    → T (fits binary64 y)
    → HasValue y t b (2 ^ 1074)
    → Whole b
double-whole nan t b F v = elim v [ ]
double-whole (inf _) t b F v = elim v [ ]
double-whole (fin s zero e) t b F v = record {
  digits = 0;
  exponent = 0;
  short = pow_pos 53;
  is =
      eq_of_mul-eq-mul_right (down e) (down_pos e) b (0 * 2 ^ 0)
      (sym v.1 ∙ zeros (up e) (2 ^ 1074) (down e));
}
  where
    zeros : (x y z : ℕ) → zero * x * y ≡ 0 * 2 ^ 0 * z
    zeros x y z = omega arith
double-whole (fin s (suc m) (pos j)) t b F v = record {
  digits = suc m;
  exponent = j + 1074;
  short = (fits-parts s m (pos j) F).short;
  is = sym (mul-one b) ∙ sym v.1 ∙ shl-shl (suc m) j 1074 (j + 1074) refl;
}
double-whole (fin s (suc m) (negsuc j)) t b F v =
    let h = fits-parts s m (negsuc j) F in
    let few : suc j ≤ 1074 =
    le_of_suc-le-suc (exponent_lt (suc j) 1075 h.lowest (pow-lt (lt-suc_self 1074))) in
    let i = 1074 - suc j in
    record {
      digits = suc m;
      exponent = i;
      short = h.short;
      is =
          eq_of_mul-eq-mul_right (2 ^ suc j) (pow_pos (suc j)) b (suc m * 2 ^ i)
          (sym v.1
          ∙ ap (λ (x : ℕ). x * 2 ^ 1074) (mul-one (suc m))
          ∙ sym (shl-shl (suc m) i (suc j) 1074 (sub-add_cancel few)));
    }

module _ (k w : ℕ) (W : 2 ^ 52 ≤ w) (b : ℕ) (B : Whole b) where
  multiple : 2 ^ 52 * 2 ^ k ≤ b → (j : ℕ) × (b ≡ j * 2 ^ k)
  multiple h =
      let m = B.digits in
      let i = B.exponent in
      let reach : 52 + k < 53 + i =
      exponent_lt (52 + k) (53 + i) (le_trans (le_of_eq (pow-add 2 52 k)) h)
      (lt_of_le_of_lt (le_of_eq B.is) (shl_lt 53 i B.short)) in
      let few : k ≤ i = omega (arith, reach) in
      (m * 2 ^ (i - k), B.is ∙ sym (shl-shl m (i - k) k i (sub-add_cancel few)))

  -- no double lies strictly between w and w + 1 times 2 ^ k
  gap-above : w * 2 ^ k < b → suc w * 2 ^ k ≤ b
  gap-above h =
      let j = multiple (le_trans (mul-le-mul_right (2 ^ k) W) (le_of_lt h)) in
      le_trans (mul-le-mul_right (2 ^ k)
      (lt_of_mul-lt-mul_right (2 ^ k) (lt_of_lt_of_le h (le_of_eq j.1)))) (le_of_eq (sym j.1))

  gap_below : b < suc w * 2 ^ k → b ≤ w * 2 ^ k
  gap_below h =
      ⊎_elim (λ (l : w * 2 ^ k < b). absurd (not-le_of_lt h (gap-above l)))
      (λ (g : b ≤ w * 2 ^ k). g)
      (lt-or-ge (w * 2 ^ k) b)

-- ---- no root of a double is half way between two
regroup : (m a b c i : ℕ) → 2 ^ i ≡ a * (b * c) → m * 2 ^ i ≡ a * (m * b * c)
regroup m a b c i h =
    ap (λ (x : ℕ). m * x) h
    ∙ mul_left_comm m a (b * c)
    ∙ ap (λ (x : ℕ). a * x) (sym (mul_assoc m b c))

-- the two sides of the test for a tie, as an odd number each times a power of two
tie_parts : (p m : ℕ) (e : ℤ) (o k : ℕ)
    → 2 ^ p * (m * up e * 2 ^ (p * 1074)) ≡ o * (down e * 2 ^ (p * k))
    → (i : ℕ) × (j : ℕ) × (m * 2 ^ i ≡ o * 2 ^ j)
tie_parts p m (pos x) o k h = (
  p + (x + p * 1074),
  p * k,
  regroup m (2 ^ p) (2 ^ x) (2 ^ (p * 1074)) (p + (x + p * 1074)) (simp pow-add)
      ∙ h
      ∙ ap (λ (y : ℕ). o * y) (one-mul (2 ^ (p * k))),
)
tie_parts p m (negsuc x) o k h = (
  p + p * 1074,
  suc x + p * k,
  regroup m (2 ^ p) 1 (2 ^ (p * 1074)) (p + p * 1074)
      (pow-add 2 p (p * 1074) ∙ ap (λ (y : ℕ). 2 ^ p * y) (sym (one-mul (2 ^ (p * 1074)))))
      ∙ h
      ∙ ap (λ (y : ℕ). o * y) (sym (pow-add 2 (suc x) (p * k))),
)

no_tie : (p : ℕ)
    → 0 < p
    → (s : Bool) (m : ℕ) (e : ℤ) (w k : ℕ)
    → T (fits binary64 (fin s (suc m) e))
    → 2 ^ 52 ≤ w
    → 2 ^ p * (suc m * up e * 2 ^ (p * 1074)) ≡ (2 * w + 1) ^ p * (down e * 2 ^ (p * k))
    → ⊥
no_tie p P s m e w k F W h =
    let f = fits-parts s m e F in
    let t = tie_parts p (suc m) e ((2 * w + 1) ^ p) k h in
    let same : suc m ≡ (2 * w + 1) ^ p =
    (odd-once (suc m) ((2 * w + 1) ^ p) t.0 t.1 f.odd (odd_pow p w) t.2).0 in
    let large : 2 * w + 1 ≤ (2 * w + 1) ^ p = le-pow p (2 * w + 1) P (omega arith) in
    omega (arith, f.short)

-- ---- the root is on r's side of the middle
module _ (p c k x y : ℕ) where
  under : y ≤ x * 2 ^ k → y ^ p * c ≤ x ^ p * (c * 2 ^ (p * k))
  under h = le_trans (mul-le-mul_right c (pow-le-pow_left h p)) (le_of_eq (sym (raised p x k c)))

  over : x * 2 ^ k ≤ y → x ^ p * (c * 2 ^ (p * k)) ≤ y ^ p * c
  over h = le_trans (le_of_eq (raised p x k c)) (mul-le-mul_right c (pow-le-pow_left h p))

  strictly : 0 < p → 0 < c → y < x * 2 ^ k → y ^ p * c < x ^ p * (c * 2 ^ (p * k))
  strictly P C h =
      lt_of_lt_of_le (mul-lt-mul_of_pos_right
      (pow-lt-pow_left h (λ (z : p ≡ 0). lt_irrefl 0 (subst (λ (i : ℕ). 0 < i) z P))) C)
      (le_of_eq (sym (raised p x k c)))

module _ (p : ℕ) (P : 0 < p) (a c k w b : ℕ) (C : 0 < c) (W : 2 ^ 52 ≤ w) (B : Whole b)
    (tie : 2 ^ p * (a * 2 ^ (p * 1074)) ≡ (2 * w + 1) ^ p * (c * 2 ^ (p * k)) → ⊥)
    (whole : ((2 * w) ^ p * (c * 2 ^ (p * k)) ≤ 2 ^ p * (a * 2 ^ (p * 1074)))
    × (2 ^ p * (a * 2 ^ (p * 1074)) < (2 * suc w) ^ p * (c * 2 ^ (p * k)))) where
  nearer-by : (o : Ordering)
      → Compared o (2 ^ p * (a * 2 ^ (p * 1074))) ((2 * w + 1) ^ p * (c * 2 ^ (p * k)))
      → Nearer p a c (nearest w o * 2 ^ k) b
  nearer-by Ordering.lt h = record {
    below = λ l.
        lt_of_lt_of_le (strictly p c k (2 * w) (w * 2 ^ k + b) P C (twice w (2 ^ k) b l))
        whole.0;
    above = λ l.
        lt_of_lt_of_le h
        (over p c k (2 * w + 1) (w * 2 ^ k + b) (middle w (2 ^ k) b (gap-above k w W b B l)));
  }
    where
      twice : (w u b : ℕ) → b < w * u → w * u + b < 2 * w * u
      twice w u b l = omega arith

      middle : (w u b : ℕ) → suc w * u ≤ b → (2 * w + 1) * u ≤ w * u + b
      middle w u b l = omega arith
  nearer-by Ordering.eq h = absurd (tie h)
  nearer-by Ordering.gt h = record {
    below = λ l.
        lt_of_le_of_lt
        (under p c k (2 * w + 1) (suc w * 2 ^ k + b) (middle w (2 ^ k) b (gap_below k w W b B l)))
        h;
    above = λ l.
        lt_of_lt_of_le whole.1
        (over p c k (2 * suc w) (suc w * 2 ^ k + b) (twice w (2 ^ k) b l));
  }
    where
      twice : (w u b : ℕ) → suc w * u < b → 2 * suc w * u ≤ suc w * u + b
      twice w u b l = omega arith

      middle : (w u b : ℕ) → b ≤ w * u → suc w * u + b ≤ (2 * w + 1) * u
      middle w u b l = omega arith

root-nearest : (p : ℕ)
    → 0 < p
    → (s : Bool) (m : ℕ) (e : ℤ)
    → T (fits binary64 (fin s (suc m) e))
    → T (in_range p (suc m * up e) (down e))
    → NearestRoot p s (suc m * up e) (down e) (round_root p binary64 s (suc m * up e) (down e))
root-nearest p P s m e F R =
    let a = suc m * up e in
    let c = down e in
    let C : 0 < c = down_pos e in
    let n = a * 2 ^ (p * 1074) in
    let k = drop p a c in
    let u = c * 2 ^ (p * k) in
    let w = part p a c in
    let N : Normal p a c =
    ⊎_elim (λ (z : a ≡ 0).
    absurd (lt_irrefl 0 (subst (λ (x : ℕ). 0 < x) z (mul-pos (zero-lt-suc m) (up_pos e)))))
    (λ (N : Normal p a c). N)
    (zero-or-normal p a c R) in
    let W : 2 ^ 52 ≤ w = whole-least p P a c C N.least in
    record {
      magnitude = keep p a c * 2 ^ k;
      value = round_root-value p P s a c C N;
      nearer = λ y t b G v.
          nearer-by p P a c k w b C W (double-whole y t b G v) (no_tie p P s m e w k F W)
          (root-whole p binary64 n c k P C (dropped-drops p binary64 n c P C).0)
          (compare (2 ^ p * n) ((2 * w + 1) ^ p * u)) (compared (2 ^ p * n) ((2 * w + 1) ^ p * u));
    }

-- ---- the square root of a positive double, and the cube root of one that is not zero
pub sqrt-nearest : (x : Float)
    → T (fits binary64 x)
    → T (positive x)
    → NearestRoot 2 false (num x) (den x) (sqrt x)
unfolding sqrt sqrt_regular
sqrt-nearest nan F t = absurd t
sqrt-nearest (inf s) F t = absurd t
sqrt-nearest (fin true m e) F t = absurd t
sqrt-nearest (fin false zero e) F t = absurd t
sqrt-nearest (fin false (suc m) e) F t =
    root-nearest 2 (zero-lt-suc 1) false m e F (sqrt-regular (fin false (suc m) e) F)

pub cbrt-nearest : (x : Float)
    → T (fits binary64 x)
    → T (positive (abs x))
    → NearestRoot 3 (negative x) (num x) (den x) (cbrt x)
unfolding cbrt abs cbrt_regular
cbrt-nearest nan F t = absurd t
cbrt-nearest (inf s) F t = absurd t
cbrt-nearest (fin s zero e) F t = absurd t
cbrt-nearest (fin s (suc m) e) F t =
    root-nearest 3 (zero-lt-suc 2) s m e F (cbrt-regular (fin s (suc m) e) F)
