-- A candidate gives a pose, which is stored, or none.
use Rattle.std.proofs.Common.{◌∙◌, ap, ◌+◌, ◌<◌, length, drop, take, arith}
use Rattle.lambdatwist.specs.LentSlots.{held}
use Rattle.lambdatwist.specs.Poses.{pose_turns}
use Rattle.lambdatwist.specs.Types.{Solutions}
use Rattle.lambdatwist.proofs.PoseTurns.{turns_go}
use Rattle.lambdatwist.proofs.poses.poses.Goals as goal
use Rattle.lambdatwist.proofs.poses.poses.Goals.{in-Some, in_default}

pub loop-candidate-preserved : goal.loop-candidate-preserved
loop-candidate-preserved c =
    let found = c.args.found in
    let loop = c.loop-candidate in
    let inside : loop.candidate-index < length (take found.count found.slots) = omega arith in
    elim c.match-pose_turn.branch [
      | in-Some w ↦
          rw (
            w.count-is,
            w.slots-is,
            w.updates-is,
            w.lifted-is,
            w.store.ensures,
            w.in-Some.ensures _ _,
          )
          (omega arith, turns_go _ _ _ _ loop.candidate-index _ _ inside ∙ loop.invariant.1)
      | in_default w ↦
          rw (
            w.count-is,
            w.slots-is,
            w.updates-is,
            w.lifted-is,
          ) (
            omega arith,
            ap
                (λ (s : Solutions). (pose_turns c.args.input c.args.measured c.args.world_inverse
                (drop (loop.candidate-index + 1) (take found.count found.slots)) s).value)
                (w.in_default.ensures (held loop.count loop.slots loop.updates loop.lifted) _)
                ∙ turns_go _ _ _ _ loop.candidate-index _ _ inside
                ∙ loop.invariant.1,
          )
    ]
