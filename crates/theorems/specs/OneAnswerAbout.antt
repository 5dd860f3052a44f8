-- Demand 1 of the mission, for the solve about the first target (document 02, §1): one to four
-- poses with the first world point as it was given, or number 1, 2 or 3 with plus zeros. That it
-- holds of every input and the answer of `solve_about` to it is `one-answer-about` in the proofs.
use Rattle.std.specs.Prelude.{◌≡◌, Bool, not, ◌&&◌, T}
use Rattle.linalg.specs.Vectors.{zeros}
use Rattle.p3p_common.specs.Input.{input_finite}
use Rattle.frames.specs.Points.{world_finite}
use Rattle.about.specs.Differences.{differences}
use Rattle.theorems.specs.OneAnswer.{Accepted, Refused, no_ordering}
use Rattle.theorems.specs.Types.{P3pInput, AnswerAbout}

-- what is solved: each point less the first, and the bearings
abbrev pub about_first : P3pInput → P3pInput
about_first input =
    record { world = (differences input.world).value; bearings = input.bearings }

-- question 1, of the eighteen numbers, and then of the differences
unfoldable pub differences_finite : P3pInput → Bool
differences_finite input = input_finite input && world_finite (about_first input).world

-- ---- number 1 where one of the eighteen numbers or of the differences is not finite, and only
--      there; of others, number 2 where the differences have no usable ordering, and only there;
--      otherwise poses, or number 3
pub data OneAnswerAbout (input : P3pInput) (about : AnswerAbout) : Type 0 where
  refused-1 : T (not (differences_finite input))
      → Refused 1 about.answer
      → about.origin ≡ zeros
      → OneAnswerAbout input about
  refused-2 : T (differences_finite input)
      → T (no_ordering (about_first input))
      → Refused 2 about.answer
      → about.origin ≡ zeros
      → OneAnswerAbout input about
  refused-3 : T (differences_finite input)
      → T (not (no_ordering (about_first input)))
      → Refused 3 about.answer
      → about.origin ≡ zeros
      → OneAnswerAbout input about
  accepted : T (differences_finite input)
      → T (not (no_ordering (about_first input)))
      → Accepted about.answer
      → about.origin ≡ input.world.p0
      → OneAnswerAbout input about
