-- `product` meets its contract: the product law of words of any even width, at 64, with the carries
-- added one after the other. Assumes nothing.
use Rattle.std.proofs.Common.{◌≡◌, ℕ, ◌+◌, ◌*◌, ◌/◌, ◌%◌, ◌^◌, ◌<◌, ◌≤◌, sym, refl, ap, ◌∙◌, ⊎_elim, add_assoc, mod-eq_of_lt, arith}
use native.Mathlib.Nat.{mod-eq-sub-mod}
use Rattle.ieee754_parts.proofs.Carry.{middle, product_lt, product-of-words}
use Rattle.ieee754_parts.proofs.Sizes.{moved}
use Rattle.ieee754_parts.proofs.Tests.{lt-or-ge}
use Rattle.ieee754_parts.proofs.wide.product.Goals as goal

-- ---- the halves of a number below 2 ^ 62, and their products
high : (a : ℕ) → a < 2 ^ 62 → a / 2 ^ 32 < 2 ^ 30
high a h = omega arith

low : (a : ℕ) → a % 2 ^ 32 < 2 ^ 32
low a = omega arith

low-low : (a b : ℕ) → a % 2 ^ 32 * (b % 2 ^ 32) < 2 ^ 64
low-low a b = product_lt 32 32 (low a) (low b)

high-low : (a b : ℕ) → a < 2 ^ 62 → a / 2 ^ 32 * (b % 2 ^ 32) < 2 ^ 62
high-low a b h = product_lt 30 32 (high a h) (low b)

low-high : (a b : ℕ) → b < 2 ^ 62 → a % 2 ^ 32 * (b / 2 ^ 32) < 2 ^ 62
low-high a b h = product_lt 32 30 (low a) (high b h)

high-high : (a b : ℕ) → a < 2 ^ 62 → b < 2 ^ 62 → a / 2 ^ 32 * (b / 2 ^ 32) < 2 ^ 60
high-high a b h g = product_lt 30 30 (high a h) (high b g)

-- ---- the carries: to the low product l's upper half the cross products m and n are added, one
-- after the other

-- what goes up in two steps goes up in one
steps : (f n : ℕ) → f / 2 ^ 32 + (f % 2 ^ 32 + n) / 2 ^ 32 ≡ (f + n) / 2 ^ 32
steps f n = omega arith

above : (w p : ℕ) → (w + p) / 2 ^ 32 ≡ p / 2 ^ 32 + (w + p % 2 ^ 32) / 2 ^ 32
above w p = omega arith

-- the carry of the low word r, by whether its sum is below 2 ^ 64
none : (p l : ℕ) → p * 2 ^ 32 + l < 2 ^ 64 → (l / 2 ^ 32 + p) / 2 ^ 32 ≡ 0
none p l h = omega arith

one : (p l : ℕ)
    → p < 2 ^ 32
    → l < 2 ^ 64
    → 2 ^ 64 ≤ p * 2 ^ 32 + l
    → (l / 2 ^ 32 + p) / 2 ^ 32 ≡ 1
one p l h g k = omega arith

carry : (p l r : ℕ)
    → p < 2 ^ 32
    → l < 2 ^ 64
    → r ≡ (p * 2 ^ 32 + l) % 2 ^ 64
    → (l / 2 ^ 32 + p) / 2 ^ 32 * 2 ^ 64 + r ≡ l + p * 2 ^ 32
carry p l r hp hl e =
    ⊎_elim (λ (h : p * 2 ^ 32 + l < 2 ^ 64).
    rw (none p l h) (let f = e ∙ mod-eq_of_lt h in omega arith))
    (λ (h : 2 ^ 64 ≤ p * 2 ^ 32 + l).
    rw (one p l hp hl h)
    (let f = e ∙ mod-eq-sub-mod h ∙ mod-eq_of_lt (omega arith) in omega arith))
    (lt-or-ge (p * 2 ^ 32 + l) (2 ^ 64))

whole : (u q k r y : ℕ)
    → k * 2 ^ 64 + r ≡ y
    → (u + (q + k)) * 2 ^ 64 + r ≡ (u + q + 0) * 2 ^ 64 + y
whole u q k r y e = omega arith

-- so the words are those of the product law, in which l and the lower half of m + n make the low
-- word
carries : (u l m n r : ℕ)
    → l < 2 ^ 64
    → r ≡ ((m + n) * 2 ^ 32 % 2 ^ 64 + l) % 2 ^ 64
    → (u + (l / 2 ^ 32 + m) / 2 ^ 32 + ((l / 2 ^ 32 + m) % 2 ^ 32 + n) / 2 ^ 32) * 2 ^ 64 + r
    ≡ (u + (m + n) / 2 ^ 32 + 0) * 2 ^ 64 + (l + (m + n) * 2 ^ 32 % 2 ^ 64)
carries u l m n r h e =
    let w = l / 2 ^ 32 in
    let p = m + n in
    let k = (w + p % 2 ^ 32) / 2 ^ 32 in
    let half : p * 2 ^ 32 % 2 ^ 64 ≡ p % 2 ^ 32 * 2 ^ 32 = moved 32 32 p in
    let lower : r ≡ (p % 2 ^ 32 * 2 ^ 32 + l) % 2 ^ 64 =
    e ∙ ap (λ (x : ℕ). (x + l) % 2 ^ 64) half in
    let upper : u + (w + m) / 2 ^ 32 + ((w + m) % 2 ^ 32 + n) / 2 ^ 32 ≡ u + (p / 2 ^ 32 + k) =
    add_assoc u ((w + m) / 2 ^ 32) (((w + m) % 2 ^ 32 + n) / 2 ^ 32)
    ∙ ap (λ (x : ℕ). u + x)
    (steps (w + m) n ∙ ap (λ (x : ℕ). x / 2 ^ 32) (add_assoc w m n) ∙ above w p) in
    ap (λ (x : ℕ). x * 2 ^ 64 + r) upper
    ∙ whole u (p / 2 ^ 32) k r (l + p % 2 ^ 32 * 2 ^ 32) (carry (p % 2 ^ 32) l r (low p) h lower)
    ∙ ap (λ (x : ℕ). (u + p / 2 ^ 32 + 0) * 2 ^ 64 + (l + x)) (sym half)

pub returns : goal.returns
returns c =
    let a = c.args.a in
    let b = c.args.b in
    let l = a % 2 ^ 32 * (b % 2 ^ 32) in
    carries (a / 2 ^ 32 * (b / 2 ^ 32)) l (a / 2 ^ 32 * (b % 2 ^ 32)) (a % 2 ^ 32 * (b / 2 ^ 32))
    _ (low-low a b) refl
    ∙ product-of-words 32 a b 0 (l + middle 32 a b * 2 ^ 32 % 2 ^ 64) (omega arith)
