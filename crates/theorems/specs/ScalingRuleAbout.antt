-- The scaling rule for the solve about the first target: document 02, §1, "the scaling rule holds
-- for it too, the three subtractions counting among the operations". Its proof is
-- `scaling-rule-about` in the proofs.
use Rattle.std.specs.Prelude.{ℤ}
use Rattle.about.specs.SolveAbout.{solve_about}
use Rattle.theorems.specs.ScalingRule.{TimesVector, Alike, ScalingRuleOf}
use Rattle.theorems.specs.Types.{AnswerAbout}

-- answers that are alike, and the subtracted point times 2 ^ k; of two refusals it is plus zeros
pub record AlikeAbout (k : ℤ) (a a' : AnswerAbout) : Type 0 where
  pub answer : Alike k a.answer a'.answer
  pub origin : TimesVector k a.origin a'.origin

unfoldable pub ScalingRuleAbout : Type 0
ScalingRuleAbout = ScalingRuleOf AlikeAbout solve_about
