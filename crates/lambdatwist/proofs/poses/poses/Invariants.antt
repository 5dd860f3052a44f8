-- The candidates that are left give what all of them do, and no more slots are filled than there
-- were candidates.
use Rattle.std.proofs.Common.{◌≡◌, ◌≤◌, drop, take}
use Rattle.lambdatwist.specs.Poses.{pose_turns, poses}
use Rattle.lambdatwist.specs.LentSlots.{held}
use Rattle.lambdatwist.proofs.poses.poses.Given as goal

abbrev pub invariant-loop-candidate : goal.invariant-loop-candidate
invariant-loop-candidate l =
    (l.count ≤ l.candidate-index)
    × ((pose_turns l.input l.measured l.world_inverse
    (drop l.candidate-index (take l.fn.found.count l.fn.found.slots))
    (held l.count l.slots l.updates l.lifted)).value
    ≡ (poses l.input l.measured l.world_inverse l.fn.found).value)
