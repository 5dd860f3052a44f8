-- Arithmetic of two-word numbers, for words of every width w: a sum of two words and its carry, the
-- order of two-word numbers, a difference and its borrow, a product from halves, and a shift.
-- Assumes nothing.
use Rattle.std.proofs.Common.{◌≡◌, ℕ, suc, ◌+◌, ◌-◌, ◌*◌, ◌/◌, ◌%◌, ◌^◌, ◌<◌, ◌≤◌, ltb, ◌↔◌, sym, ap, ◌∙◌, subst, ap₂, ⊎_elim, le_trans, le_of_eq, lt_of_lt_of_le, le-add_right, lt_of_le_of_lt, le_of_lt, add_assoc, mul-le-mul_right, mod-eq_of_lt, mul_assoc, suc-mul, mul_comm, add-mul, add-sub_of_le, add_comm, lt_of_mul-lt-mul_right, mul-le-mul_left, div-add-mod', mul-add, mul_left_comm, arith, pow_pos, pow-add, shl_lt, shl_exact, shr_lt}
use native.Mathlib.Nat.{mul-add-div_right}
use native.Mathlib.Nat.{mod-eq-sub-mod}
use native.Mathlib.Nat.{add_left_comm}
use lib.Arith.{digits_lt}
use Rattle.ieee754_parts.proofs.Tests.{lt-or-ge, same_test}
use Rattle.ieee754_parts.proofs.Sizes.{shl-shl, moved}

-- ---- a sum of two words: the carry by comparison

module _ (w a b : ℕ) (ha : a < 2 ^ w) (hb : b < 2 ^ w) where
  -- from 2 ^ w on the sum modulo 2 ^ w is 2 ^ w less
  wrapped : 2 ^ w ≤ a + b → (a + b) % 2 ^ w ≡ a + b - 2 ^ w
  wrapped h = mod-eq-sub-mod h ∙ mod-eq_of_lt (omega arith)

  -- the sum modulo 2 ^ w is less than one of the two exactly if the sum does not fit the word
  pub carry-iff : ((a + b) % 2 ^ w < b) ↔ (2 ^ w ≤ a + b)
  carry-iff =
      ⊎_elim (λ (h : a + b < 2 ^ w). (λ g. omega (arith, mod-eq_of_lt h), λ g. omega arith))
      (λ (h : 2 ^ w ≤ a + b). (λ g. h, λ g. omega (arith, wrapped h))) (lt-or-ge (a + b) (2 ^ w))

  -- so the carry and the sum modulo 2 ^ w, r, are the whole sum
  module _ (r : ℕ) (e : r ≡ (a + b) % 2 ^ w) where
    pub carried : r < b → 1 * 2 ^ w + r ≡ a + b
    carried l = let h : 2 ^ w ≤ a + b = carry-iff.0 (rw (← e) l) in omega (arith, wrapped h)

    pub not_carried : b ≤ r → 0 * 2 ^ w + r ≡ a + b
    not_carried l =
        ⊎_elim (λ (h : a + b < 2 ^ w). omega (arith, mod-eq_of_lt h))
        (λ (h : 2 ^ w ≤ a + b). absurd (let k = carry-iff.1 h in omega arith))
        (lt-or-ge (a + b) (2 ^ w))

-- ---- the order of two-word numbers

pub high_le : (w a₁ a b₁ b : ℕ) → a < 2 ^ w → b₁ * 2 ^ w + b ≤ a₁ * 2 ^ w + a → b₁ ≤ a₁
high_le w a₁ a b₁ b ha h =
    ⊎_elim (λ (l : a₁ < b₁).
    absurd (let m = mul-le-mul_right (2 ^ w) l in omega (arith, suc-mul a₁ (2 ^ w))))
    (λ g. g)
    (lt-or-ge a₁ b₁)

pub high_lt : (w a₁ a b₁ b : ℕ) → a < b → b₁ * 2 ^ w + b ≤ a₁ * 2 ^ w + a → b₁ < a₁
high_lt w a₁ a b₁ b l h =
    ⊎_elim (λ x. x)
    (λ (g : a₁ ≤ b₁). absurd (let m = mul-le-mul_right (2 ^ w) g in omega arith))
    (lt-or-ge b₁ a₁)

-- the high word of a number below 2 ^ (i + w)
pub high-below : (i w h l n : ℕ) → h * 2 ^ w + l ≡ n → n < 2 ^ (i + w) → h < 2 ^ i
high-below i w h l n e b =
    lt_of_mul-lt-mul_right (2 ^ w) (lt_of_le_of_lt
    (le_trans (le-add_right (h * 2 ^ w) l) (le_of_eq e))
    (lt_of_lt_of_le b (le_of_eq (pow-add 2 i w))))

-- by the low words where the high ones are equal, and by the high ones elsewhere
pub less-low : (w a₁ a b₁ b : ℕ) → a₁ ≡ b₁ → ltb a b ≡ ltb (a₁ * 2 ^ w + a) (b₁ * 2 ^ w + b)
less-low w a₁ a b₁ b e =
    let f = ap (λ (x : ℕ). x * 2 ^ w) e in
    same_test a b (a₁ * 2 ^ w + a) (b₁ * 2 ^ w + b) (λ h. omega arith, λ h. omega arith)

pub less-high : (w a₁ a b₁ b : ℕ)
    → a < 2 ^ w
    → b < 2 ^ w
    → (a₁ ≡ b₁ → ⊥)
    → ltb a₁ b₁ ≡ ltb (a₁ * 2 ^ w + a) (b₁ * 2 ^ w + b)
less-high w a₁ a b₁ b ha hb n =
    same_test a₁ b₁ (a₁ * 2 ^ w + a) (b₁ * 2 ^ w + b) (
      λ (h : a₁ < b₁). let m = mul-le-mul_right (2 ^ w) h in omega (arith, suc-mul a₁ (2 ^ w)),
      λ (h : a₁ * 2 ^ w + a < b₁ * 2 ^ w + b).
          let m : a₁ ≤ b₁ = high_le w b₁ b a₁ a hb (le_of_lt h) in omega arith,
    )

-- ---- a difference of two words, r: the word that b added to wraps back to a

module _ (w a b r : ℕ) (hb : b < 2 ^ w) (hr : r < 2 ^ w) (e : (r + b) % 2 ^ w ≡ a) where
  pub borrowed : a < b → r + b ≡ a + 2 ^ w
  borrowed l =
      ⊎_elim (λ h. omega (arith, mod-eq_of_lt h))
      (λ h. omega (arith, wrapped w r b hr hb h))
      (lt-or-ge (r + b) (2 ^ w))

  pub not-borrowed : b ≤ a → r + b ≡ a
  not-borrowed l =
      ⊎_elim (λ h. omega (arith, mod-eq_of_lt h))
      (λ h. omega (arith, wrapped w r b hr hb h))
      (lt-or-ge (r + b) (2 ^ w))

  -- and of two-word numbers, with d the difference of the high words
  module _ (a₁ b₁ : ℕ) where
    pub difference-borrowed : a < b
        → b₁ < a₁
        → (a₁ - b₁ - 1) * 2 ^ w + r + (b₁ * 2 ^ w + b) ≡ a₁ * 2 ^ w + a
    difference-borrowed l h =
        let d = a₁ - b₁ - 1 in
        let f : a₁ * 2 ^ w ≡ suc (d + b₁) * 2 ^ w = ap (λ (x : ℕ). x * 2 ^ w) (omega arith) in
        omega (arith, suc-mul (d + b₁) (2 ^ w), add-mul d b₁ (2 ^ w), borrowed l)

    pub difference : b ≤ a → b₁ ≤ a₁ → (a₁ - b₁) * 2 ^ w + r + (b₁ * 2 ^ w + b) ≡ a₁ * 2 ^ w + a
    difference l h =
        let d = a₁ - b₁ in
        let f : a₁ * 2 ^ w ≡ (d + b₁) * 2 ^ w = ap (λ (x : ℕ). x * 2 ^ w) (omega arith) in
        omega (arith, add-mul d b₁ (2 ^ w), not-borrowed l)

-- ---- a product of two words, each of two halves of h digits

ruleset sorted =
    (mul-add, add-mul, mul_assoc, mul_comm, mul_left_comm, add_assoc, add_comm, add_left_comm)

-- the middle column's upper digits c go to the high word, and its lower ones d, moved up by a half,
-- to the low word
columns : (H a₁ a₀ b₁ b₀ c d : ℕ)
    → a₁ * b₀ + a₀ * b₁ ≡ c * H + d
    → (a₁ * H + a₀) * (b₁ * H + b₀) ≡ (a₁ * b₁ + c) * (H * H) + (a₀ * b₀ + d * H)
columns H a₁ a₀ b₁ b₀ c d e =
    let open₁ :
    (a₁ * H + a₀) * (b₁ * H + b₀) ≡ a₁ * b₁ * (H * H) + (a₁ * b₀ + a₀ * b₁) * H + a₀ * b₀ =
    simp sorted in
    let open₂ :
    a₁ * b₁ * (H * H) + (c * H + d) * H + a₀ * b₀ ≡ (a₁ * b₁ + c) * (H * H) + (a₀ * b₀ + d * H) =
    simp sorted in
    open₁ ∙ rw e open₂

-- the middle column of the product
abbrev pub middle : ℕ → ℕ → ℕ → ℕ
middle h a b = a / 2 ^ h * (b % 2 ^ h) + a % 2 ^ h * (b / 2 ^ h)

product-of-halves : (h a b : ℕ)
    → (a / 2 ^ h * (b / 2 ^ h) + middle h a b / 2 ^ h) * 2 ^ (h + h)
    + (a % 2 ^ h * (b % 2 ^ h) + middle h a b * 2 ^ h % 2 ^ (h + h))
    ≡ a * b
product-of-halves h a b =
    let H = 2 ^ h in
    let m = middle h a b in
    rw (moved h h m, pow-add 2 h h)
    (sym (columns H (a / H) (a % H) (b / H) (b % H) (m / H) (m % H) (sym (div-add-mod' m H)))
    ∙ ap₂ (λ (x y : ℕ). x * y) (div-add-mod' a H) (div-add-mod' b H))

-- c and l are the carry and the word of the low column's sum
pub product-of-words : (h a b c l : ℕ)
    → c * 2 ^ (h + h) + l ≡ a % 2 ^ h * (b % 2 ^ h) + middle h a b * 2 ^ h % 2 ^ (h + h)
    → (a / 2 ^ h * (b / 2 ^ h) + middle h a b / 2 ^ h + c) * 2 ^ (h + h) + l ≡ a * b
product-of-words h a b c l e =
    let u = a / 2 ^ h * (b / 2 ^ h) + middle h a b / 2 ^ h in
    ap (λ (x : ℕ). x + l) (add-mul u c (2 ^ (h + h)))
    ∙ add_assoc (u * 2 ^ (h + h)) (c * 2 ^ (h + h)) l
    ∙ ap (λ (x : ℕ). u * 2 ^ (h + h) + x) e
    ∙ product-of-halves h a b

-- a product of a number of i digits and one of j has at most i + j
pub product_lt : (i j : ℕ) {a b : ℕ} → a < 2 ^ i → b < 2 ^ j → a * b < 2 ^ (i + j)
product_lt i j {a} ha hb = lt_of_le_of_lt (mul-le-mul_left a (le_of_lt hb)) (shl_lt i j ha)

-- ---- k digits cut off, of a number of two words of w digits: the low word takes those that the
-- high one drops, and they fit
module _ (w k h l : ℕ) (K : k ≤ w) (H : h < 2 ^ k) (L : l < 2 ^ w) where
  width : k + (w - k) ≡ w
  width = add-sub_of_le K

  pub shifted : h * 2 ^ (w - k) % 2 ^ w + l / 2 ^ k ≡ (h * 2 ^ w + l) / 2 ^ k
  shifted =
      let a = h * 2 ^ (w - k) in
      let kept : a % 2 ^ w ≡ a = shl_exact k (w - k) w H (le_of_eq width) in
      let whole : h * 2 ^ w ≡ a * 2 ^ k = sym (shl-shl h (w - k) k w (omega (arith, width))) in
      ap (λ (x : ℕ). x + l / 2 ^ k) kept
      ∙ sym (mul-add-div_right (pow_pos k) a l)
      ∙ ap (λ (x : ℕ). (x + l) / 2 ^ k) (sym whole)

  pub shifted-lt : h * 2 ^ (w - k) % 2 ^ w + l / 2 ^ k < 2 ^ w
  shifted-lt =
      subst (λ (x : ℕ). x < 2 ^ w) (sym shifted)
      (shr_lt w k
      (lt_of_lt_of_le (digits_lt H L) (le_of_eq (mul_comm (2 ^ k) (2 ^ w) ∙ sym (pow-add 2 w k)))))
