-- `cube_top` meets its contract: the square's digits below 2 ^ 54 and those above, each times h.
-- Assumes nothing.
use Prim.Native.Nat.{ℕ, ◌+◌, ◌*◌, ◌/◌, ◌%◌, ◌^◌, ◌<◌}
use mathlib.Core.Path.{◌≡◌, sym, ap, ap₂, ◌∙◌, subst}
use native.Mathlib.Nat.{lt_of_lt_of_le, mul_right_comm, add-mul, div-add-mod', mul-add-div_right}
use native.Mathlib.Omega.{arith}
use borrow.Author.Rules.{rules}
use lib.Dec.{lit<, lit≤}
use lib.Pow.{pow_pos, shr_lt, shr-shr}
use Rattle.ieee754_roots.specs.Nearest.{cube_top}
use Rattle.ieee754_parts.proofs.Carry.{product_lt, high-below}
use Rattle.ieee754_roots.proofs.cbrt.cube_top.Statement.{statement}
use Rattle.ieee754_roots.proofs.cbrt.cube_top.Tie as tie

-- ---- n times h, from n's digits below 2 ^ i and those above
by_parts : (i j n h : ℕ) → (n / 2 ^ i * h + n % 2 ^ i * h / 2 ^ i) / 2 ^ j ≡ n * h / 2 ^ (i + j)
by_parts i j n h =
    let u = n / 2 ^ i in
    let l = n % 2 ^ i in
    let whole : u * h * 2 ^ i + l * h ≡ n * h =
    ap (λ (x : ℕ). x + l * h) (mul_right_comm u h (2 ^ i))
    ∙ sym (add-mul (u * 2 ^ i) l h)
    ∙ ap (λ (x : ℕ). x * h) (div-add-mod' n (2 ^ i)) in
    ap (λ (x : ℕ). x / 2 ^ j)
    (sym (mul-add-div_right (pow_pos i) (u * h) (l * h)) ∙ ap (λ (x : ℕ). x / 2 ^ i) whole)
    ∙ shr-shr (n * h) i j

-- the words of the square, and what the calls gave for each part
cube : (h s₁ s u l t r : ℕ)
    → s₁ * 2 ^ 64 + s ≡ h * h
    → u ≡ (s₁ * 2 ^ 64 + s) / 2 ^ 54
    → l ≡ s % 2 ^ 54 * h
    → t ≡ l / 2 ^ 54
    → r ≡ (u * h + (0 * 2 ^ 64 + t)) / 2 ^ 53
    → r ≡ cube_top h
unfolding cube_top
cube h s₁ s u l t r sq a b d e =
    let low : s % 2 ^ 54 ≡ h * h % 2 ^ 54 = omega (arith, ap (λ (x : ℕ). x % 2 ^ 54) sq) in
    let t-is : 0 * 2 ^ 64 + t ≡ h * h % 2 ^ 54 * h / 2 ^ 54 =
    omega (arith, d ∙ ap (λ (x : ℕ). x / 2 ^ 54) (b ∙ ap (λ (x : ℕ). x * h) low)) in
    e
    ∙ ap₂ (λ (x y : ℕ). (x * h + y) / 2 ^ 53) (a ∙ ap (λ (x : ℕ). x / 2 ^ 54) sq) t-is
    ∙ by_parts 54 53 (h * h) h

-- ---- sizes: a product n of two numbers of 54 digits, its high word, and its digits from 2 ^ 54 on
high_lt : (x y h l : ℕ) → x < 2 ^ 54 → y < 2 ^ 54 → h * 2 ^ 64 + l ≡ x * y → h < 2 ^ 44
high_lt x y h l a b e = high-below 44 64 h l (x * y) e (product_lt 54 54 a b)

upper_lt : (x y n r : ℕ) → x < 2 ^ 54 → y < 2 ^ 54 → n ≡ x * y → r ≡ n / 2 ^ 54 → r < 2 ^ 54
upper_lt x y n r a b e d =
    subst (λ (z : ℕ). z < 2 ^ 54) (sym (d ∙ ap (λ (z : ℕ). z / 2 ^ 54) e))
    (shr_lt 54 54 (product_lt 54 54 a b))

sum_lt : (h l u t x y : ℕ)
    → x < 2 ^ 54
    → y < 2 ^ 54
    → t < 2 ^ 54
    → h * 2 ^ 64 + l ≡ u + (0 * 2 ^ 64 + t)
    → u ≡ x * y
    → h < 2 ^ 53
sum_lt h l u t x y a b d e f =
    let p : x * y < 2 ^ 108 = product_lt 54 54 a b in
    high-below 53 64 h l (u + (0 * 2 ^ 64 + t)) e (omega arith)

-- the digits from 2 ^ 54 on of the square, and of the low part times h
square-upper : (c : tie.After-shift_right) → c.shift_right.result < 2 ^ 54
square-upper c =
    let after-struct-known = c.before.before in
    let after-product = after-struct-known.before in
    let s = after-product.before in
    let p = after-product.product-square in
    upper_lt s.args.h s.args.h _ c.shift_right.result s.requires s.requires p.ensures
    c.shift_right.ensures

low_part : (n : ℕ) → n % 2 ^ 54 < 2 ^ 54
low_part n = omega arith

low-upper : (c : tie.After-shift_right-2) → c.shift_right-2.result < 2 ^ 54
low-upper c =
    let after-shift-right = c.before.before in
    let d = after-shift-right.before in
    let after-product = d.before.before in
    let s = after-product.before in
    upper_lt _ s.args.h _ c.shift_right-2.result
    (low_part after-product.product-square.result.lo) s.requires d.product-low.ensures
    c.shift_right-2.ensures

shift-right-requires : tie.Need-shift_right-requires
shift-right-requires c κs =
    let after-product = c.before.before in
    let s = after-product.before in
    let p = after-product.product-square in
    let b =
    high_lt s.args.h s.args.h p.result.hi p.result.lo s.requires s.requires
    p.ensures in
    (lit< tt, lit< tt, lt_of_lt_of_le b (lit≤ tt))

product-requires-3 : tie.Need-product-high-requires
product-requires-3 c κs = omega (arith, square-upper c)

shift-right-requires-2 : tie.Need-shift_right-requires-2
shift-right-requires-2 c κs =
    let d = c.before.before in
    let after-product = d.before.before in
    let s = after-product.before in
    let b =
    high_lt _ s.args.h d.product-low.result.hi d.product-low.result.lo
    (low_part after-product.product-square.result.lo) s.requires d.product-low.ensures in
    (lit< tt, lit< tt, lt_of_lt_of_le b (lit≤ tt))

add-wide-requires : tie.Need-add_wide-requires
add-wide-requires c κs =
    let d = c.before in
    let after-shift-right = d.before in
    let after-struct-known = after-shift-right.before.before in
    let s = after-struct-known.before.before in
    let b =
    high_lt after-shift-right.shift_right.result s.args.h d.product-high.result.hi
    d.product-high.result.lo (square-upper after-shift-right) s.requires d.product-high.ensures in
    omega arith

shift-right-requires-3 : tie.Need-shift_right-requires-3
shift-right-requires-3 c κs =
    let d = c.before.before in
    let after-shift-right = d.before in
    let after-struct-known = after-shift-right.before.before in
    let s = after-struct-known.before.before in (
      lit< tt,
      lit< tt,
      sum_lt c.add_wide.result.hi c.add_wide.result.lo _ c.before.shift_right-2.result
          after-shift-right.shift_right.result s.args.h (square-upper after-shift-right)
          s.requires (low-upper c.before) c.add_wide.ensures d.product-high.ensures,
    )

returns : tie.Need-returns
returns c =
    let w = c.before in
    let d = w.before.before in
    let g = d.before.before in
    let after-product = g.before.before in
    let s = after-product.before in
    let p = after-product.product-square in
    cube s.args.h p.result.hi p.result.lo d.before.shift_right.result _
    w.before.shift_right-2.result c.shift_right-3.result p.ensures
    d.before.shift_right.ensures g.product-low.ensures w.before.shift_right-2.ensures
    (c.shift_right-3.ensures
    ∙ ap (λ (x : ℕ). x / 2 ^ 53)
    (w.add_wide.ensures ∙
    ap (λ (x : ℕ). x + (0 * 2 ^ 64 + w.before.shift_right-2.result)) d.product-high.ensures))

pub cube_top_spec : {M : Type 1} → statement M
cube_top_spec =
    tie.close (tie.spec (λ c _. search rules) (λ c _. search rules) shift-right-requires
    product-requires-3 shift-right-requires-2 add-wide-requires shift-right-requires-3 returns)
