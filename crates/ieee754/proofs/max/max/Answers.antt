-- `max` meets its contract: its tests are the definition's, in another order. Assumes nothing.
use mathlib.Core.Path.{◌≡◌, refl, sym, ◌∙◌}
use mathlib.Core.Bool.{Bool, true, false, ◌||◌, cond, false≢true}
use lib.Ieee.{Float, nan, inf, fin, is_nan, lt}
use Rattle.ieee754.specs.CopySign.{negative}
use Rattle.ieee754.specs.Maximum.{max}
use Rattle.ieee754_parts.proofs.Tests.{both-fail}
use Rattle.ieee754.proofs.max.max.Goals as goal

-- ---- the first test

-- where it passes, neither is a NaN
numbers : (x y : Float)
    → lt x y || lt y x ≡ true
    → (is_nan x ≡ false) × (is_nan y ≡ false)
unfolding lt is_nan
numbers nan nan h = absurd (false≢true h)
numbers nan (inf t) h = absurd (false≢true h)
numbers nan (fin t n f) h = absurd (false≢true h)
numbers (inf s) nan h = absurd (false≢true h)
numbers (fin s m e) nan h = absurd (false≢true h)
numbers (inf s) (inf t) h = (refl, refl)
numbers (inf s) (fin t n f) h = (refl, refl)
numbers (fin s m e) (inf t) h = (refl, refl)
numbers (fin s m e) (fin t n f) h = (refl, refl)

-- and one is above the other
chosen : {A : Type 0} (a b : Bool) (x y z : A)
    → a || b ≡ true
    → cond a y x ≡ cond a y (cond b x z)
chosen true b x y z h = refl
chosen false true x y z h = refl
chosen false false x y z h = absurd (false≢true h)

ordered : (x y : Float) → lt x y || lt y x ≡ true → cond (lt x y) y x ≡ max x y
unfolding max
ordered x y h =
    rw (
      (numbers x y h).0,
      (numbers x y h).1,
    ) (chosen (lt x y) (lt y x) x y (cond (negative x) y x) h)

-- ---- the function
pub returns-then-x-y : goal.returns-then-x-y
returns-then-x-y c = c.larger.ensures ∙ ordered c.args.x c.args.y c.if-x-y.true

pub returns-then-is_nan : goal.returns-then-is_nan
unfolding max
returns-then-is_nan c = rw (sym c.is_nan.ensures.value ∙ c.if-is_nan.true)

pub returns-then-is_nan-2 : goal.returns-then-is_nan-2
unfolding max
returns-then-is_nan-2 c =
    rw (
      sym c.is_nan.ensures.value ∙ c.if-is_nan.false,
      sym c.is_nan-2.ensures.value ∙ c.if-is_nan-2.true,
    )

-- past the tests for a NaN, by the sign of x
by_sign : (x y : Float) (s : Bool)
    → is_nan x ≡ false
    → is_nan y ≡ false
    → lt x y || lt y x ≡ false
    → negative x ≡ s
    → cond s y x ≡ max x y
unfolding max
by_sign x y s X Y h n =
    rw (X, Y, (both-fail (lt x y) (lt y x) h).0, (both-fail (lt x y) (lt y x) h).1, n)

pub returns-then-negative : goal.returns-then-negative
returns-then-negative c =
    by_sign c.args.x c.args.y true
    (sym c.is_nan.ensures.value ∙ c.if-is_nan.false)
    (sym c.is_nan-2.ensures.value ∙ c.if-is_nan-2.false)
    c.if-x-y.false
    (sym c.negative.ensures ∙ c.if-negative.true)

pub returns-else-negative : goal.returns-else-negative
returns-else-negative c =
    by_sign c.args.x c.args.y false
    (sym c.is_nan.ensures.value ∙ c.if-is_nan.false)
    (sym c.is_nan-2.ensures.value ∙ c.if-is_nan-2.false)
    c.if-x-y.false
    (sym c.negative.ensures ∙ c.if-negative.false)
