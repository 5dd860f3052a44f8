-- `sum_aligned` meets its contract: each branch of the code is one of `sum`'s. Assumes nothing.
use Rattle.std.proofs.Common.{◌≡◌, ℕ, ◌+◌, ◌-◌, ◌*◌, ◌^◌, Bool, true, false, cond, ◌&&◌, ltb, sym, ◌∙◌, arith, pow_pos}
use mathlib.Core.Bool.{beq}
use lib.Ieee.{binary64}
use Rattle.ieee754_parts.specs.Rounded.{rounded, summed}
use Rattle.ieee754_parts.specs.Value.{value}
use Rattle.ieee754_parts.proofs.Sums.{sum-scaled}
use Rattle.ieee754_parts.proofs.sum.sum_aligned.Goals as goal

-- what `sum` does, with the numbers a and b before they are scaled
module _ (s : Bool) (a : ℕ) (t : Bool) (b e : ℕ) where
  scaled : summed s (a * 2 ^ e) t (b * 2 ^ e)
      ≡ cond (beq s t) (rounded s ((a + b) * 2 ^ e))
      (cond (ltb a b) (rounded t ((b - a) * 2 ^ e)) (rounded (s && ltb b a) ((a - b) * 2 ^ e)))
  unfolding rounded summed
  scaled = sum-scaled binary64 s a t b (2 ^ e) (2 ^ 2166) (pow_pos e)

  like : (v : ℕ)
      → beq s t ≡ true
      → v ≡ a + b
      → rounded s (v * 2 ^ e) ≡ summed s (a * 2 ^ e) t (b * 2 ^ e)
  like v h x = rw (x, scaled, h)

  below : (v : ℕ)
      → beq s t ≡ false
      → ltb a b ≡ true
      → v + a ≡ b
      → rounded t (v * 2 ^ e) ≡ summed s (a * 2 ^ e) t (b * 2 ^ e)
  below v h l x = let y : v ≡ b - a = omega arith in rw (y, scaled, h, l)

  not-below : (v : ℕ) (g : Bool)
      → beq s t ≡ false
      → ltb a b ≡ false
      → g ≡ ltb b a
      → v + b ≡ a
      → rounded (s && g) (v * 2 ^ e) ≡ summed s (a * 2 ^ e) t (b * 2 ^ e)
  not-below v g h l m x = let y : v ≡ a - b = omega arith in rw (y, scaled, h, l, m)

pub returns-then-a_negative-b_negative : goal.returns-then-a_negative-b_negative
returns-then-a_negative-b_negative c =
    let s = c.args in
    let v = c.add_wide in
    c.round_wide.ensures
    ∙ like s.a_negative (value s.a) s.b_negative (value s.b) s.exp
    (value v.result) c.if-a_negative-b_negative.true v.ensures

pub returns-then-less_wide : goal.returns-then-less_wide
returns-then-less_wide c =
    let s = c.args in
    let v = c.sub_wide in
    c.round_wide-then-less_wide.ensures
    ∙ below s.a_negative (value s.a) s.b_negative (value s.b) s.exp
    (value v.result) c.if-a_negative-b_negative.false (sym c.less_wide.ensures ∙ c.if-less_wide.true)
    v.ensures

pub returns-else-less_wide : goal.returns-else-less_wide
returns-else-less_wide c =
    let s = c.args in
    let v = c.sub_wide-else-less_wide in
    c.round_wide-else-less_wide.ensures
    ∙ not-below s.a_negative (value s.a) s.b_negative (value s.b) s.exp
    (value v.result) c.less_wide-else-less_wide.result c.if-a_negative-b_negative.false
    (sym c.less_wide.ensures ∙ c.if-less_wide.false) c.less_wide-else-less_wide.ensures v.ensures
