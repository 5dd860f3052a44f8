-- `replay_pieces::push::slots_hold` meets its contract. Assumes nothing.
use native.Mathlib.Omega.{arith}
use Prim.Native.Nat.{ℕ, ◌+◌}
use mathlib.Core.Bool.{Bool, false}
use lib.ListN.{get_or}
use Rattle.replay_pieces.specs.PushRecords.{slot_holds, slots_hold}
use Rattle.replay_pieces.specs.Types.{Pose}
use Rattle.replay_records.proofs.Slots.{slot_same}
use Rattle.replay_pieces.proofs.push.slots_hold.Goals as goal

pub returns : goal.returns
unfolding slots_hold
returns c =
    let a = c.args in
    let slot : ℕ → Pose → Bool = λ i pose.
    slot_holds a.s.now (i + 1) pose (get_or a.updates i 0) (get_or a.lifted i false) in
    let four = c.well_formed.1.0.1.0.1 in
    rw (
      slot_same (slot 0) a.poses 0 _ (omega (arith, four)) c.slot_holds-first.ensures,
      slot_same (slot 1) a.poses 1 _ (omega (arith, four)) c.slot_holds-second.ensures,
      slot_same (slot 2) a.poses 2 _ (omega (arith, four)) c.slot_holds-third.ensures,
      slot_same (slot 3) a.poses 3 _ (omega (arith, four)) c.slot_holds-fourth.ensures,
    )
