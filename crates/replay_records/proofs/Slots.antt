-- What is asked of a slot's pose does not depend on what stands for a pose past the end. Assumes
-- nothing.
use Prim.Native.Nat.{ℕ, ◌<◌}
use mathlib.Core.Path.{◌≡◌, ap, ◌∙◌}
use mathlib.Core.Bool.{Bool}
use mathlib.Core.List.{List}
use lib.ListN.{length, get_or}
use Rattle.frames.specs.Poses.{zero_pose}
use Rattle.std.proofs.lemmas.List.{get_or_default}
use Rattle.replay_records.specs.Types.{Pose}

module _ (asked : Pose → Bool) (poses : List Pose) (i : ℕ) (d : Pose) where
  pub slot_same : {r : Bool}
      → i < length poses
      → r ≡ asked (get_or poses i d)
      → r ≡ asked (get_or poses i zero_pose)
  slot_same h e = e ∙ ap asked (get_or_default poses i d zero_pose h)
