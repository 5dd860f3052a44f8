-- The poses that a choice reads in lent memory, and what the best and its score are after it: the
-- choice's, or what they were before where it is refused.
use Rattle.std.specs.Prelude.{ℕ, List, [], ◌∷◌, Float}
use Rattle.frames.specs.Lent.{pose_at}
use Rattle.lent_answers.specs.Types.{Pose, Best, Result, Ok, Err}

unfoldable pub poses_in : List Float → List Pose
poses_in xs = pose_at xs 0 ∷ pose_at xs 12 ∷ pose_at xs 24 ∷ pose_at xs 36 ∷ []

abbrev pub best_after : Result Best ℕ → ℕ → ℕ
best_after (Ok chosen) held = chosen.place
best_after (Err n) held = held

abbrev pub score_after : Result Best ℕ → Float → Float
score_after (Ok chosen) held = chosen.score
score_after (Err n) held = held
