use Rattle.std.proofs.Common.{◌<◌, ◌≡◌, ◌+◌, ◌≤◌, length, rules, arith}
use native.Mathlib.Nat.{min-le_right}
use Rattle.listing_records.specs.FrameLines.{pose_lines}
use Rattle.listing_records.proofs.PoseLines.{next_put}
use Rattle.listing_records.proofs.frame.put_poses.Goals as goal

pub loop-index-init : goal.loop-index-init
unfolding pose_lines
loop-index-init g c = record { placed = search rules; bound = omega arith }

pub loop-index-preserved : goal.loop-index-preserved
loop-index-preserved g c =
    let loop = c.loop-index in
    let four : length c.args.answer.poses ≡ 4 = search rules in
    let inside : loop.index < length c.args.answer.poses =
    omega (arith, min-le_right c.args.answer.count 4) in
    let room : length loop.out.items + 320 ≤ g.row.N = omega arith in
    record {
      placed = next_put c.args.number _ _ _ _ _ _ loop.index _ inside room loop.invariant.placed c.put_line.ensures;
      bound = omega (arith, c.put_line.ensures.fits);
    }
