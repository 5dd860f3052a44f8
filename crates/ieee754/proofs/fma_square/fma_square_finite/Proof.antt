-- `fma_square_finite` meets its contract: over the one denominator 2 ^ 2166 the square and the
-- addend are those of the definition (FmaValue.antt). Assumes nothing.
use Prim.Native.Nat.{ℕ, ◌+◌, ◌-◌, ◌*◌, ◌^◌, ◌<◌}
use mathlib.Core.Path.{◌≡◌, refl, sym, ap, ap₂, ◌∙◌}
use mathlib.Core.Bool.{Bool, true, false, ◌&&◌}
use native.Mathlib.Nat.{mul_assoc, mul_comm, mul_left_comm, lt_trans}
use native.Mathlib.Omega.{arith}
use borrow.Author.Rules.{rules}
use borrow.Author.Tests.{ltb-true}
use lib.Dec.{ltb}
use lib.Ieee.{unlike}
use lib.Pow.{pow-add, pow-lt, shl_lt}
use Rattle.ieee754_parts.specs.Value.{value}
use Rattle.ieee754_parts.specs.Rounded.{summed}
use Rattle.ieee754_parts.proofs.Carry.{product_lt, high-below}
use Rattle.ieee754_parts.proofs.Sizes.{shl-shl}
use Rattle.ieee754_parts.proofs.Tests.{both}
use Rattle.ieee754.proofs.FmaValue.{fma-value}
use Rattle.ieee754.proofs.fma_square.fma_square_finite.Statement.{statement}
use Rattle.ieee754.proofs.fma_square.fma_square_finite.Tie as tie

-- ---- the parts over 2 ^ 2166
square-is : (m x : ℕ) → m * m * 2 ^ (2 * x + 18) ≡ m * 2 ^ x * (m * 2 ^ x) * 2 ^ 18
square-is m x =
    let double : 2 * x + 18 ≡ x + x + 18 = omega arith in
    ap (λ (e : ℕ). m * m * 2 ^ e) double
    ∙ ap (λ (y : ℕ). m * m * y)
    (pow-add 2 (x + x) 18 ∙ ap (λ (y : ℕ). y * 2 ^ 18) (pow-add 2 x x))
    ∙ simp (mul_assoc, mul_comm, mul_left_comm)

addend-is : (n e y : ℕ)
    → e < y + 1074
    → n * 2 ^ (y + 1074 - e) * 2 ^ (e + 18) ≡ n * 2 ^ y * 2 ^ 1092
addend-is n e y l =
    shl-shl n (y + 1074 - e) (e + 18) (y + 1092) (omega arith)
    ∙ sym (shl-shl n y 1092 (y + 1092) refl)

-- the square of either sign is plus
like-itself : (s : Bool) → unlike s s ≡ false
like-itself true = refl
like-itself false = refl

-- ---- what is asked of them
tested : (e f : ℕ)
    → ltb e f && ltb f (e + 64) ≡ true
    → (e < f) × (f < e + 64)
tested e f h = let t = both h in (ltb-true e f t.0, ltb-true f (e + 64) t.1)

square-high : (m h l : ℕ) → m < 2 ^ 53 → h * 2 ^ 64 + l ≡ m * m → h < 2 ^ 42
square-high m h l b e = high-below 42 64 h l (m * m) e (product_lt 53 53 b b)

addend-high : (n k h l : ℕ) → n < 2 ^ 53 → k < 64 → h * 2 ^ 64 + l ≡ n * 2 ^ k → h < 2 ^ 53
addend-high n k h l b g e =
    let most : 53 + k < 53 + 64 = omega arith in
    high-below 53 64 h l (n * 2 ^ k) e (lt_trans (shl_lt 53 k b) (pow-lt most))

passed : (c : tie.Then-square-addend)
    → let after-unpack2 = c.before.before.before in
    let x = after-unpack2.before.unpack-a.result.exp in
    let z = after-unpack2.unpack-c.result.exp in
    (2 * x < z + 1074) × (z + 1074 < 2 * x + 64)
passed c = tested _ _ c.if-square-addend.true

sum-aligned-requires : tie.Need-sum_aligned-requires
sum-aligned-requires c κs =
    let after-shift-left = c.before in
    let t = after-shift-left.before in
    let after-unpack2 = t.before.before.before in
    let a = after-unpack2.before.unpack-a in
    let d = after-unpack2.unpack-c in
    let p = c.product in
    let q = after-shift-left.shift_left-moved in
    let gap : d.result.exp + 1074 - 2 * a.result.exp < 64 = omega (arith, (passed t).1) in
    let first =
    square-high a.result.sig p.result.hi p.result.lo a.ensures.digits.short
    p.ensures in
    let second =
    addend-high d.result.sig _ q.result.hi q.result.lo d.ensures.digits.short gap
    q.ensures in (
      omega arith,
      omega (arith, (passed t).1),
      omega (arith, a.ensures.digits.within),
    )

returns : tie.Need-returns-then-square-addend
returns c =
    let after-product = c.before in
    let after-shift-left = after-product.before in
    let t = after-shift-left.before in
    let after-unpack2 = t.before.before.before in
    let s = after-unpack2.before.before.args in
    let a = after-unpack2.before.unpack-a in
    let d = after-unpack2.unpack-c in
    let n = a.result.negative in
    let e = 2 * a.result.exp in
    let x = a.result.sig * 2 ^ a.result.exp in
    let z = d.result.sig * 2 ^ d.result.exp in
    let q = value after-product.product.result * 2 ^ (e + 18) in
    let addend =
    ap (λ (v : ℕ). v * 2 ^ (e + 18)) after-shift-left.shift_left-moved.ensures
    ∙ addend-is d.result.sig e d.result.exp (passed t).0 in
    fma-value c.sum_aligned.result s.x s.x s.z n n d.result.negative q x x z
    a.ensures.is a.ensures.is d.ensures.is
    (ap (λ (v : ℕ). v * 2 ^ (e + 18)) after-product.product.ensures
    ∙ square-is a.result.sig a.result.exp)
    (c.sum_aligned.ensures
    ∙ ap₂ (λ (b : Bool) (v : ℕ). summed b q d.result.negative v) (sym (like-itself n)) addend)

pub fma_square_finite_spec : {M : Type 1} → statement M
fma_square_finite_spec =
    tie.close (tie.spec (λ c _. search rules) (λ c _. search rules) (λ c. search rules)
    (λ c. search rules) (λ c. search rules) (λ c. omega (arith, (passed c).0))
    (λ c _. (omega (arith, (passed c).0), omega (arith, (passed c).1))) (λ c _. search rules)
    (λ c. search rules) sum-aligned-requires returns (λ c _. search rules) (λ c. search rules))
