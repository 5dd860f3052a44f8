-- The lines of a frame: its solve, the choice by the checking target, and the poses.
use Rattle.std.specs.Prelude.{ℕ, zero, suc, min, Bool, false, List, [], ◌++◌, eqb, get_or, if◌then◌else◌}
use Rattle.frames.specs.Poses.{zero_pose}
use Rattle.lambdatwist.specs.Solve.{solve}
use Rattle.listing_records.specs.Types.{Vector3, Pose, Frame, Slot, Answer}
use Rattle.choice.specs.Answer.{place}
use Rattle.choice.specs.Choose.{choose}
use Rattle.listing.specs.Lines.{refused_line, accepted_line, pose_line}

-- the lines of the first k poses, in order
unfoldable pub pose_lines : ℕ → List Pose → List ℕ → List Bool → ℕ → List ℕ
pose_lines n poses updates lifted zero = []
pose_lines n poses updates lifted (suc k) =
    let slot : Slot = record {
      pose = get_or poses k zero_pose;
      updates = get_or updates k 0;
      lifted = get_or lifted k false;
    } in
    pose_lines n poses updates lifted k ++ pose_line n (suc k) slot

-- the lines of an answer of the solver, which has at most four poses
unfoldable pub answer_lines : ℕ → Answer → Vector3 → Vector3 → List ℕ
answer_lines n answer target bearing =
    if eqb answer.refusal 0 then
    accepted_line n answer.count
    (place (choose answer.poses answer.count target bearing).value)
    ++ pose_lines n answer.poses answer.updates answer.lifted (min answer.count 4)
    else refused_line n answer.refusal

-- the lines of a frame
unfoldable pub frame_lines : ℕ → Frame → List ℕ
frame_lines n frame =
    answer_lines n (solve frame.world frame.bearings).value frame.target frame.bearing
