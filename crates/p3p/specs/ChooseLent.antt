-- The choice over lent arrays: the poses and vectors that are read. What the best and its score are
-- when it returns is `best_after` and `score_after` of `lent_answers`.
use Rattle.std.specs.Prelude.{ℕ, List, Float}
use Rattle.frames.specs.Lent.{vector_at}
use Rattle.choice.specs.Choose.{choose}
use Rattle.lent_answers.specs.Chosen.{poses_in}
use Rattle.p3p.specs.Types.{Best, Result}

unfoldable pub chosen : List Float → ℕ → List Float → List Float → Result Best ℕ
chosen poses count target bearing =
    (choose (poses_in poses) count (vector_at target 0) (vector_at bearing 0)).value
