-- An answer of the solve in a record: the refusal number and the count at one place, and at another
-- four slots, each of the updates, the mark and the pose. Whether every word is the answer's: a
-- refused solve has plus zeros and no mark in every slot, and so has its record.
use Rattle.std.specs.Prelude.{ℕ, ◌+◌, Bool, false, ◌&&◌, List, get_or}
use Rattle.frames.specs.Poses.{zero_pose}
use Rattle.replay_records.specs.Agreement.{number_agrees, flag, pose_agrees}
use Rattle.replay_stages.specs.Types.{Pose, Answer}

-- the slot that begins at a place
unfoldable pub slot_agrees : Pose → ℕ → Bool → List ℕ → ℕ → Bool
slot_agrees pose updates lifted s at =
    number_agrees updates s at
    && number_agrees (flag lifted) s (at + 8)
    && pose_agrees pose s (at + 16)

-- the four that begin at a place, of fourteen words each
unfoldable pub slots_agree : List Pose → List ℕ → List Bool → List ℕ → ℕ → Bool
slots_agree poses updates lifted s at =
    slot_agrees (get_or poses 0 zero_pose) (get_or updates 0 0) (get_or lifted 0 false) s at
    && slot_agrees (get_or poses 1 zero_pose) (get_or updates 1 0) (get_or lifted 1 false) s (at + 112)
    && slot_agrees (get_or poses 2 zero_pose) (get_or updates 2 0) (get_or lifted 2 false) s (at + 224)
    && slot_agrees (get_or poses 3 zero_pose) (get_or updates 3 0) (get_or lifted 3 false) s (at + 336)

-- the number and the count begin at `at`, the slots at `slots`
unfoldable pub answer_agrees : Answer → List ℕ → ℕ → ℕ → Bool
answer_agrees answer s at slots =
    number_agrees answer.refusal s at
    && number_agrees answer.count s (at + 8)
    && slots_agree answer.poses answer.updates answer.lifted s slots
