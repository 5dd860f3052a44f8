-- The solve about the first target: document 02, §1. Question 1 of document 01, then the
-- differences; "number 1 is also given where a difference is not finite, right after the present
-- first question"; then the present solve of the differences.
use Rattle.std.specs.Prelude.{not, eqb, if◌then◌else◌}
use Rattle.ieee754.specs.Traced.{Traced, pure, ◌>>=◌}
use Rattle.linalg.specs.Vectors.{zeros}
use Rattle.p3p_common.specs.Input.{input_finite}
use Rattle.lambdatwist.specs.Solve.{refused, solve}
use Rattle.frames.specs.Points.{world_finite}
use Rattle.about.specs.Differences.{differences}
use Rattle.about.specs.Types.{Vector3, World, Bearings, P3pInput, Answer, AnswerAbout}

unfoldable pub answer_about : World → Bearings → Traced Answer
answer_about world bearings =
    let input : P3pInput = record { world = world; bearings = bearings } in
    if not (input_finite input) then pure (refused 1) else (do
      moved ← differences world
      if not (world_finite moved) then pure (refused 1) else solve moved bearings)

-- "the answer carries the subtracted point beside the poses (plus zeros if refused)"
unfoldable pub with_origin : Vector3 → Answer → AnswerAbout
with_origin origin answer =
    if not (eqb answer.refusal 0) then record { answer = answer; origin = zeros }
    else record { answer = answer; origin = origin }

unfoldable pub solve_about : World → Bearings → Traced AnswerAbout
solve_about world bearings = do
  answer ← answer_about world bearings
  pure (with_origin world.p0 answer)
