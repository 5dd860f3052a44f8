-- `add_scaled` meets its contract. The term with the lower exponent is cut short to the other's,
-- and enough of it is kept (`Apart`). Assumes nothing.
use Rattle.std.proofs.Common.{◌≡◌, ℕ, suc, ◌+◌, ◌-◌, ◌*◌, ◌/◌, ◌%◌, ◌^◌, ◌<◌, ◌≤◌, Bool, sym, refl, ap, ◌∙◌, subst, ap₂, ⊎_elim, le_trans, le_of_eq, lt_of_lt_of_le, lt_of_le_of_lt, add-zero, le_of_lt, add-le-add, mul-le-mul_right, mul_assoc, sub-add_cancel, arith, lit≤, pow_mono, pow-add, shl_lt}
use native.Mathlib.Nat.{mul-mod_left}
use lib.Ieee.{Float, binary64}
use Rattle.ieee754_parts.specs.Jam.{jam}
use Rattle.ieee754_parts.specs.Rounded.{summed}
use Rattle.ieee754_parts.specs.Value.{value}
use Rattle.ieee754_parts.proofs.Carry.{high-below}
use Rattle.ieee754_parts.proofs.Jam.{jam-lt, jam-no-longer}
use Rattle.ieee754_parts.proofs.Tests.{lt-or-ge}
use Rattle.ieee754_parts.proofs.Sizes.{shl-shl}
use Rattle.ieee754_parts.proofs.Sums.{Apart, sum_comm, sum-jam}
use Rattle.ieee754_parts.proofs.sum.add_scaled.Goals as goal

-- the addend's two words, for a significand m
abbrev addend : ℕ → ℕ
addend m = m * 512 * 2 ^ 64 + 0

-- half of it
abbrev half : ℕ → ℕ
half m = m * 256 * 2 ^ 64

addend-lt : (m : ℕ) → m < 2 ^ 53 → addend m < 2 ^ 126
addend-lt m h = lt_of_le_of_lt (le_of_eq (add-zero (m * 512 * 2 ^ 64))) (shl_lt 62 64 (omega arith))

twice_half : (m : ℕ) → half m * 2 ≡ addend m
twice_half m = omega arith

-- its value over 2 ^ 2166
addend-is : (m x : ℕ) → addend m * 2 ^ (x + 1019) ≡ m * 2 ^ x * 2 ^ 1092
addend-is m x =
    ap (λ (y : ℕ). y * 2 ^ (x + 1019)) (add-zero (m * 512 * 2 ^ 64) ∙ shl-shl m 9 64 73 refl)
    ∙ shl-shl m 73 (x + 1019) (x + 1092) (omega arith)
    ∙ sym (shl-shl m x 1092 (x + 1092) refl)

-- ---- the product is cut short: either the addend is no larger than a small power of two, and what
-- is cut off lies below half of the smallest value, or the addend is larger by far
product-apart : (p e m x k : ℕ)
    → p < 2 ^ 124
    → (0 < x → 2 ^ 52 ≤ m)
    → k + e ≡ x + 1019
    → Apart binary64 1092 e k p (half m)
product-apart p e m x k h f g =
    ⊎_elim (λ (l : x < 72). Apart.fine (omega arith))
    (λ (l : 72 ≤ x).
    let small : jam k p ≤ 2 ^ 124 = le_of_lt (jam-no-longer k 123 p h) in
    let guard : 2 ^ 54 ≤ 2 ^ 124 = lit≤ tt in
    let big : 2 ^ 125 ≤ half m * 2 =
    mul-le-mul_right 2 (mul-le-mul_right (2 ^ 64) (mul-le-mul_right 256 (f (omega arith)))) in
    Apart.far (le_trans (add-le-add small guard) big))
    (lt-or-ge x 72)

-- ---- the addend is cut short: by less than a word, which is 0, or by more, and then the product
-- is larger by far
addend-exact : (m k : ℕ) → k < 64 → addend m % 2 ^ suc k ≡ 0
addend-exact m k l =
    let d : 63 - k + suc k ≡ 64 = omega arith in
    let e : 2 ^ (63 - k) * 2 ^ suc k ≡ 2 ^ 64 =
    sym (pow-add 2 (63 - k) (suc k)) ∙ ap (λ (x : ℕ). 2 ^ x) d in
    ap (λ (x : ℕ). x % 2 ^ suc k)
    (add-zero (m * 512 * 2 ^ 64)
    ∙ ap (λ (x : ℕ). m * 512 * x) (sym e)
    ∙ sym (mul_assoc (m * 512) (2 ^ (63 - k)) (2 ^ suc k)))
    ∙ mul-mod_left (m * 512 * 2 ^ (63 - k)) (2 ^ suc k)

addend-apart : (m e p k : ℕ)
    → m < 2 ^ 53
    → 2 ^ 64 ≤ p
    → p % 2 ≡ 0
    → Apart binary64 1092 e k (addend m) (p / 2)
addend-apart m e p k h f z =
    ⊎_elim (λ (l : k < 64). Apart.exact (addend-exact m k l))
    (λ (l : 64 ≤ k).
    let fits : addend m < 2 ^ (61 + suc k) =
    lt_of_lt_of_le (addend-lt m h) (pow_mono {i = 126} (omega arith)) in
    Apart.far (far (jam k (addend m)) p (jam-lt k 61 (addend m) fits) f z))
    (lt-or-ge k 64)
  where
    far : (j p : ℕ) → j < 2 ^ 62 → 2 ^ 64 ≤ p → p % 2 ≡ 0 → j + 2 ^ 54 ≤ p / 2 * 2
    far j p a b c = omega arith

-- ---- so either way r, the sum with the term cut short to j, is the sum of the whole terms
module _ (r : Float) (s t : Bool) (p e m x j : ℕ) where
  cut_product : p < 2 ^ 124
      → (0 < x → 2 ^ 52 ≤ m)
      → e < x + 1019
      → j ≡ jam (x + 1019 - e) p
      → r ≡ summed s (j * 2 ^ (x + 1019)) t (addend m * 2 ^ (x + 1019))
      → r ≡ summed s (p * 2 ^ e) t (m * 2 ^ x * 2 ^ 1092)
  unfolding summed
  cut_product a b l h is =
      let k = x + 1019 - e in
      let g : k + e ≡ x + 1019 = sub-add_cancel (le_of_lt l) in
      is
      ∙ ap₂ (λ (y z : ℕ). summed s (y * 2 ^ (x + 1019)) t (z * 2 ^ (x + 1019)))
      h (sym (twice_half m))
      ∙ subst (λ (y : ℕ).
      summed s (jam k p * 2 ^ y) t (half m * 2 * 2 ^ y)
      ≡ summed s (p * 2 ^ e) t (half m * 2 * 2 ^ y))
      g (sum-jam binary64 1092 e k p (half m) (product-apart p e m x k a b g) s t)
      ∙ ap (λ (y : ℕ). summed s (p * 2 ^ e) t y)
      (ap (λ (y : ℕ). y * 2 ^ (x + 1019)) (twice_half m) ∙ addend-is m x)

  cut-addend : m < 2 ^ 53
      → 2 ^ 64 ≤ p
      → p % 2 ≡ 0
      → x + 1019 ≤ e
      → j ≡ jam (e - (x + 1019)) (addend m)
      → r ≡ summed s (p * 2 ^ e) t (j * 2 ^ e)
      → r ≡ summed s (p * 2 ^ e) t (m * 2 ^ x * 2 ^ 1092)
  unfolding summed
  cut-addend a b z l h is =
      let q = x + 1019 in
      let k = e - q in
      let g : k + q ≡ e = sub-add_cancel l in
      let w : p / 2 * 2 ≡ p = omega arith in
      is
      ∙ sum_comm binary64 s (p * 2 ^ e) t (j * 2 ^ e) (2 ^ 2166)
      ∙ ap₂ (λ (y v : ℕ). summed t (y * 2 ^ e) s (v * 2 ^ e)) h (sym w)
      ∙ subst (λ (y : ℕ).
      summed t (jam k (addend m) * 2 ^ y) s (p / 2 * 2 * 2 ^ y)
      ≡ summed t (addend m * 2 ^ q) s (p / 2 * 2 * 2 ^ y))
      g (sum-jam binary64 1092 q k (addend m) (p / 2) (addend-apart m q p k a b z) t s)
      ∙ ap₂ (λ (y v : ℕ). summed t y s (v * 2 ^ e)) (addend-is m x) w
      ∙ sum_comm binary64 t (m * 2 ^ x * 2 ^ 1092) s (p * 2 ^ e) (2 ^ 2166)

-- ---- the words have room for the sum
room₁ : (h m : ℕ) → h < 2 ^ 60 → m < 2 ^ 53 → h + m * 512 + 1 < 2 ^ 64
room₁ h m a b = omega arith

room₂ : (h g : ℕ) → h < 2 ^ 60 → g < 2 ^ 62 → h + g + 1 < 2 ^ 64
room₂ h g a b = omega arith

pub sum_aligned-requires : goal.sum_aligned-requires
sum_aligned-requires c =
    let j = c.jam_wide in
    let k = c.args.c.exp + 1019 - c.args.p_exp in (
      room₁ j.result.hi c.args.c.sig
          (high-below 60 64 j.result.hi j.result.lo (jam k (value c.args.p))
          j.ensures (jam-no-longer k 123 (value c.args.p) c.requires.0.short))
          c.requires.1.short,
      low c.args.c.exp,
      up c.args.c.exp c.requires.1.within,
    )
  where
    low : (x : ℕ) → 64 ≤ x + 1019
    low x = omega arith

    up : (x : ℕ) → x ≤ 2045 → x + 1019 < 4900
    up x h = omega arith

pub sum_aligned-requires-else-p_exp-q_exp : goal.sum_aligned-requires-else-p_exp-q_exp
sum_aligned-requires-else-p_exp-q_exp c =
    let p = c.args.p in
    let m = c.args.c.sig in
    let j = c.jam_wide-else-p_exp-q_exp in
    let k = c.args.p_exp - (c.args.c.exp + 1019) in (
      room₂ p.hi j.result.hi
          (high-below 60 64 p.hi p.lo (value p) refl c.requires.0.short)
          (high-below 62 64 j.result.hi j.result.lo (jam k (addend m)) j.ensures
          (jam-no-longer k 125 (addend m) (addend-lt m c.requires.1.short))),
      low c.args.c.exp c.args.p_exp c.if-p_exp-q_exp.false,
      up c.args.p_exp c.requires.0.within,
    )
  where
    low : (x e : ℕ) → x + 1019 ≤ e → 64 ≤ e
    low x e h = omega arith

    up : (e : ℕ) → e ≤ 4090 → e < 4900
    up e h = omega arith

pub returns-then-p_exp-q_exp : goal.returns-then-p_exp-q_exp
returns-then-p_exp-q_exp c =
    let a = c.args in
    let j = c.jam_wide in
    let r = c.sum_aligned in
    cut_product r.result a.negative a.c.negative (value a.p) a.p_exp a.c.sig
    a.c.exp (value j.result) c.requires.0.short c.requires.1.full c.if-p_exp-q_exp.true
    j.ensures r.ensures

some : (x e : ℕ) → x + 1019 ≤ e → 0 < e
some x e h = omega arith

pub returns-else-p_exp-q_exp : goal.returns-else-p_exp-q_exp
returns-else-p_exp-q_exp c =
    let a = c.args in
    let j = c.jam_wide-else-p_exp-q_exp in
    let r = c.sum_aligned-else-p_exp-q_exp in
    let full = c.requires.0.full (some a.c.exp a.p_exp c.if-p_exp-q_exp.false) in
    cut-addend r.result a.negative a.c.negative (value a.p) a.p_exp a.c.sig
    a.c.exp (value j.result) c.requires.1.short full c.requires.0.even c.if-p_exp-q_exp.false
    j.ensures r.ensures
