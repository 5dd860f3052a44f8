-- After k turns the lines of the first k poses are in place.
use Rattle.std.proofs.Common.{◌≡◌, ◌+◌, ◌*◌, ◌≤◌, ◌++◌, length}
use Rattle.listing_records.specs.FrameLines.{pose_lines}
use Rattle.listing_records.proofs.frame.put_poses.Given as goal

abbrev pub invariant-loop-index : goal.invariant-loop-index
invariant-loop-index g l = record {
  placed :
      l.out.items
      ≡ l.initial.out.items
      ++ pose_lines l.number l.answer.poses l.answer.updates l.answer.lifted l.index;
  bound : length l.out.items ≤ length l.initial.out.items + 320 * l.index;
}
