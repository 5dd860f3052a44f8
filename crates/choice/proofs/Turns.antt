-- A turn of the loop over the poses. Assumes nothing.
use Prim.Native.Nat.{ℕ, ◌+◌, ◌<◌}
use mathlib.Core.Path.{◌≡◌}
use mathlib.Core.List.{List}
use lib.ListN.{length, get_or, drop}
use Rattle.std.proofs.lemmas.List.{drop_more}
use Rattle.choice.specs.Score.{score}
use Rattle.choice.specs.Choose.{better, choose_among}
use Rattle.choice.specs.Types.{Vector3, Pose, Best, Result}

pub turn : (poses : List Pose) (at : ℕ) (d : Pose) (target bearing : Vector3) (best : Result Best ℕ)
    → at < length poses
    → let next = better best (at + 1) (score (get_or poses at d) target bearing).value in
    (choose_among (drop (at + 1) poses) (at + 1) target bearing next).value
    ≡ (choose_among (drop at poses) at target bearing best).value
unfolding choose_among
turn poses at d target bearing best h = rw (drop_more poses at d h)
