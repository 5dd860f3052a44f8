-- The solve about the first target and its choice over lent arrays: what is read, and what the
-- origin holds when the solve returns. A refused solve leaves it as it was, since a refusal writes
-- nothing.
use Rattle.std.specs.Prelude.{ℕ, List, [], ◌∷◌, eqb, Float, if◌then◌else◌}
use Rattle.frames.specs.Lent.{vector_at, world_at, bearings_at}
use Rattle.about.specs.SolveAbout.{solve_about}
use Rattle.about.specs.ChooseAbout.{choose_about}
use Rattle.lent_answers.specs.Chosen.{poses_in}
use Rattle.p3p.specs.Types.{Vector3, Best, Result, AnswerAbout}

-- the input: three world points and then three bearings
unfoldable pub solved_about : List Float → AnswerAbout
solved_about input = (solve_about (world_at input 0) (bearings_at input 9)).value

unfoldable pub point_after : ℕ → Vector3 → List Float → List Float
point_after refusal point held =
    if eqb refusal 0 then point.x ∷ point.y ∷ point.z ∷ [] else held

unfoldable pub origin_after : AnswerAbout → List Float → List Float
origin_after about held = point_after about.answer.refusal about.origin held

unfoldable pub chosen_about : List Float → ℕ → List Float → List Float → List Float
    → Result Best ℕ
chosen_about poses count origin target bearing =
    (choose_about (poses_in poses) count (vector_at origin 0) (vector_at target 0) (vector_at bearing 0)
    ).value
