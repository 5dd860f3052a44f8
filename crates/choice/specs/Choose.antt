-- The choice of one pose: the lowest finite score wins, the earlier pose on a tie, as `best_by` of
-- pose/p3p/common.rs does. No score is minus zero, so the order of numbers is that of `total_cmp`.
-- A pose without a score is passed over.
use Rattle.std.specs.Prelude.{ℕ, ◌+◌, min, List, [], ◌∷◌, take, Float, if◌then◌else◌}
use Rattle.std.specs.Float.Ieee.{lt}
use Rattle.std.specs.Float.Ieee.Scale.{finite}
use Rattle.ieee754.specs.Traced.{Traced, pure, ◌>>=◌}
use Rattle.choice.specs.Answer.{no_score}
use Rattle.choice.specs.Score.{score}
use Rattle.choice.specs.Types.{Vector3, Pose, Best, Option, Some, None, Result, Ok, Err}

-- a finite score beside the choice so far: the lower one, and the earlier on a tie
unfoldable pub lower : Result Best ℕ → ℕ → Float → Result Best ℕ
lower (Err n) place value = Ok (record { place = place; score = value })
lower (Ok held) place value =
    if lt value held.score then Ok (record { place = place; score = value }) else Ok held

-- the choice so far with the pose at a place, from 1
unfoldable pub better : Result Best ℕ → ℕ → Option Float → Result Best ℕ
better best place None = best
better best place (Some value) = if finite value then lower best place value else best

-- the choice so far with a list of poses, the first of which comes after `passed` others
unfoldable pub choose_among : List Pose → ℕ → Vector3 → Vector3 → Result Best ℕ
    → Traced (Result Best ℕ)
choose_among [] passed target bearing best = pure best
choose_among (pose ∷ poses) passed target bearing best = do
  scored ← score pose target bearing
  choose_among poses (passed + 1) target bearing (better best (passed + 1) scored)

-- A stated pose count above 4 is read as 4. Has any pose a finite score? If no (also for an empty
-- list, or where all poses lie behind): 10.
unfoldable pub choose : List Pose → ℕ → Vector3 → Vector3 → Traced (Result Best ℕ)
choose poses count target bearing = choose_among (take (min count 4) poses) 0 target bearing no_score
