-- The scaling rule holds of the solve about the first target, as specs/ScalingRuleAbout.antt states
-- it. Assumes nothing.
use lib.IntN.{ℤ}
use lib.Dec.{T}
use Rattle.linalg.specs.Vectors.{all_finite}
use Rattle.about.specs.SolveAbout.{solve_about}
use Rattle.about.proofs.AboutScaling.{AtAnswerAbout, solve_about-scales}
use Rattle.theorems.specs.ScalingRuleAbout.{AlikeAbout, ScalingRuleAbout}
use Rattle.theorems.specs.Types.{AnswerAbout}
use Rattle.theorems.proofs.FiniteTranslation.{FiniteTranslations}
use Rattle.theorems.proofs.OneAnswerAbout.{about-finite, origin-finite}
use Rattle.theorems.proofs.ScalingRule.{vector-times, answer-alike, rule-of}

about-alike : (k : ℤ) {a a' : AnswerAbout}
    → FiniteTranslations a.answer.poses
    → T (all_finite a.origin)
    → AtAnswerAbout k a a'
    → AlikeAbout k a a'
about-alike k poses origin h = record {
  answer = answer-alike k poses h.answer;
  origin = vector-times k origin h.origin;
}

pub scaling-rule-about : ScalingRuleAbout
unfolding ScalingRuleAbout
scaling-rule-about =
    rule-of AtAnswerAbout AlikeAbout solve_about
    (λ _ _ _ bearings. solve_about-scales bearings)
    (λ k world bearings _.
    about-alike k (about-finite world bearings) (origin-finite world bearings))
