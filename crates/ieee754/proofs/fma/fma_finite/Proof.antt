-- `fma_finite` meets its contract: over the one denominator 2 ^ 2166 the product and the addend are
-- those of the definition (FmaValue.antt). Assumes nothing.
use borrow.Author.Rules.{rules}
use mathlib.Core.Path.{◌≡◌, refl, sym, ap, ap₂, ◌∙◌, subst}
use mathlib.Core.Logic.{⊎_elim}
use Prim.Native.Nat.{ℕ, ◌+◌, ◌*◌, ◌%◌, ◌^◌, ◌≤◌, ◌<◌}
use native.Mathlib.Nat.{le_trans, mul-le-mul, mul_assoc, mul_comm, mul_left_comm, mul-mod_left}
use native.Mathlib.Nat.{mul-zero, zero-mul, mul-le-mul_right, not-le_of_lt}
use native.Mathlib.Omega.{arith}
use lib.Arith.{lt-one}
use lib.Dec.{lit≤}
use lib.Pow.{pow-add}
use Rattle.ieee754_parts.specs.Value.{value}
use Rattle.ieee754_parts.proofs.Carry.{product_lt}
use Rattle.ieee754_parts.proofs.Tests.{lt-or-ge}
use Rattle.ieee754.proofs.FmaValue.{fma-value}
use Rattle.ieee754.proofs.fma.fma_finite.Statement.{statement}
use Rattle.ieee754.proofs.fma.fma_finite.Tie as tie

-- ---- the product p of two significands m and n, each moved up by 9 digits
abbrev moved : ℕ → ℕ → ℕ
moved m n = m * 512 * (n * 512)

regroup : (m n a x y w : ℕ) → a * a ≡ w → m * a * (n * a) * (x * y) ≡ m * x * (n * y) * w
regroup m n a x y w e = rw (← e) (simp (mul_assoc, mul_comm, mul_left_comm))

at-exponent : (m n x y : ℕ) → moved m n * 2 ^ (x + y) ≡ m * 2 ^ x * (n * 2 ^ y) * 2 ^ 18
at-exponent m n x y =
    ap (λ (e : ℕ). moved m n * e) (pow-add 2 x y) ∙ regroup m n 512 (2 ^ x) (2 ^ y) (2 ^ 18) refl

moved-comm : (m n : ℕ) → moved m n ≡ moved n m
moved-comm m n = mul_comm (m * 512) (n * 512)

-- below 2 ^ 64 it is 0, or both factors are subnormal
one-full : (m n : ℕ) → 2 ^ 52 ≤ m → moved m n < 2 ^ 64 → moved m n ≡ 0
one-full m n h l =
    ⊎_elim (λ (z : n < 1). ap (moved m) (lt-one z) ∙ mul-zero (m * 512))
    (λ (g : 1 ≤ n).
    absurd (not-le_of_lt l (le_trans (lit≤ {m = 2 ^ 64} {n = 2 ^ 70} tt)
    (mul-le-mul (mul-le-mul_right 512 h) (mul-le-mul_right 512 g))))) (lt-or-ge n 1)

small : (m n x y : ℕ)
    → (0 < x → 2 ^ 52 ≤ m)
    → (0 < y → 2 ^ 52 ≤ n)
    → moved m n < 2 ^ 64
    → moved m n * 2 ^ 0 ≡ moved m n * 2 ^ (x + y)
small m n x y f g l =
    let none : moved m n ≡ 0 → moved m n * 2 ^ 0 ≡ moved m n * 2 ^ (x + y) =
    λ z. rw z (sym (zero-mul (2 ^ (x + y)))) in
    ⊎_elim (λ (a : x < 1).
    ⊎_elim (λ (b : y < 1). let e : 0 ≡ x + y = omega arith in ap (λ (z : ℕ). moved m n * 2 ^ z) e)
    (λ (b : 0 < y).
    none (moved-comm m n ∙ one-full n m (g b) (subst (λ (p : ℕ). p < 2 ^ 64) (moved-comm m n) l)))
    (lt-or-ge y 1))
    (λ (a : 0 < x). none (one-full m n (f a) l)) (lt-or-ge x 1)

-- so whatever exponent e `product_exp` gives, the value is the same
product_is : (m n x y p e : ℕ)
    → (0 < x → 2 ^ 52 ≤ m)
    → (0 < y → 2 ^ 52 ≤ n)
    → p ≡ moved m n
    → (p < 2 ^ 64 → e ≡ 0)
    → (2 ^ 64 ≤ p → e ≡ x + y)
    → p * 2 ^ e ≡ m * 2 ^ x * (n * 2 ^ y) * 2 ^ 18
product_is m n x y p e f g h a b =
    ⊎_elim (λ (l : p < 2 ^ 64).
    ap₂ (λ (u v : ℕ). u * 2 ^ v) h (a l)
    ∙ small m n x y f g (subst (λ (u : ℕ). u < 2 ^ 64) h l)
    ∙ at-exponent m n x y)
    (λ (l : 2 ^ 64 ≤ p). ap₂ (λ (u v : ℕ). u * 2 ^ v) h (b l) ∙ at-exponent m n x y)
    (lt-or-ge p (2 ^ 64))

-- and what `add_leading` asks of it holds
module _ (m n x y p e : ℕ) (h : p ≡ moved m n) (a : p < 2 ^ 64 → e ≡ 0)
    (b : 2 ^ 64 ≤ p → e ≡ x + y) where
  short : m < 2 ^ 53 → n < 2 ^ 53 → p < 2 ^ 124
  short k l = subst (λ (u : ℕ). u < 2 ^ 124) (sym h) (product_lt 62 62 (omega arith) (omega arith))

  full : 0 < e → 2 ^ 64 ≤ p
  full z =
      ⊎_elim (λ (l : p < 2 ^ 64). absurd (let y = a l in omega arith))
      (λ g. g)
      (lt-or-ge p (2 ^ 64))

  within : x ≤ 2045 → y ≤ 2045 → e ≤ 4090
  within k l =
      ⊎_elim (λ (z : p < 2 ^ 64). let f = a z in omega arith)
      (λ (z : 2 ^ 64 ≤ p). let f = b z in omega arith)
      (lt-or-ge p (2 ^ 64))

  even : p % 2 ≡ 0
  even =
      let f : n * 512 ≡ n * 256 * 2 = omega arith in
      ap (λ (u : ℕ). u % 2)
      (h ∙ ap (λ (u : ℕ). m * 512 * u) f ∙ sym (mul_assoc (m * 512) (n * 256) 2))
      ∙ mul-mod_left (m * 512 * (n * 256)) 2

add-leading-requires : tie.Need-add_leading-requires
add-leading-requires c κs =
    let after-struct-known5 = c.before.before in
    let k = after-struct-known5.before in
    let after-struct-known3 = k.before.before in
    let g = after-struct-known3.before in
    let after-struct-known = g.before.before in
    let w = after-struct-known.before in
    let a = w.before.unpack-a in
    let b = w.unpack-b in
    let p = value g.product-p.result in
    let e = k.product_exp-exp in
    let m = a.result.sig in
    let n = b.result.sig in
    let x = a.result.exp in
    let y = b.result.exp in
    let f = g.product-p.ensures in (
      record {
        short =
            short m n x y p e.result f e.ensures.0 e.ensures.1
            a.ensures.digits.short b.ensures.digits.short;
        full = full m n x y p e.result f e.ensures.0 e.ensures.1;
        within =
            within m n x y p e.result f e.ensures.0 e.ensures.1
            a.ensures.digits.within b.ensures.digits.within;
        even = even m n x y p e.result f e.ensures.0 e.ensures.1;
      },
      c.unpack.ensures.digits,
    )

returns : tie.Need-returns
returns c =
    let after-unpack3 = c.before in
    let after-struct-known5 = after-unpack3.before.before in
    let k = after-struct-known5.before in
    let after-struct-known3 = k.before.before in
    let g = after-struct-known3.before in
    let after-struct-known = g.before.before in
    let w = after-struct-known.before in
    let a = w.before.unpack-a in
    let b = w.unpack-b in
    let d = after-unpack3.unpack in
    let s = w.before.before.args in
    let e = k.product_exp-exp in
    let p = value g.product-p.result in
    let x = a.result.sig * 2 ^ a.result.exp in
    let y = b.result.sig * 2 ^ b.result.exp in
    let z = d.result.sig * 2 ^ d.result.exp in
    let is =
    product_is a.result.sig b.result.sig a.result.exp b.result.exp p e.result
    a.ensures.digits.full b.ensures.digits.full g.product-p.ensures e.ensures.0
    e.ensures.1 in
    fma-value c.add_leading.result s.x s.y s.z a.result.negative
    b.result.negative d.result.negative (p * 2 ^ e.result) x y z a.ensures.is
    b.ensures.is d.ensures.is is c.add_leading.ensures

pub fma_finite_spec : {M : Type 1} → statement M
fma_finite_spec =
    tie.close (tie.spec (λ c _. search rules) (λ c _. search rules) (λ c. search rules)
    (λ c. search rules) (λ c _. search rules) (λ c. search rules) (λ c _. search rules)
    (λ c _. search rules) add-leading-requires returns)
