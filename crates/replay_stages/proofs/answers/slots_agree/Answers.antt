-- `replay_stages::answers::slots_agree` meets its contract. Assumes nothing.
use native.Mathlib.Omega.{arith}
use Prim.Native.Nat.{ℕ, ◌+◌}
use mathlib.Core.Bool.{Bool, false}
use lib.ListN.{get_or}
use Rattle.replay_records.proofs.Slots.{slot_same}
use Rattle.replay_stages.specs.Types.{Pose}
use Rattle.replay_stages.specs.AnswerRecords.{slot_agrees, slots_agree}
use Rattle.replay_stages.proofs.answers.slots_agree.Goals as goal

pub returns : goal.returns
unfolding slots_agree
returns c =
    let a = c.args in
    let poses = a.poses in
    let at = a.at in
    let slot : ℕ → ℕ → Pose → Bool = λ i place pose.
    slot_agrees pose (get_or a.updates i 0) (get_or a.lifted i false) a.s.now place in
    let four = c.well_formed.0.1.0.1 in
    rw (
      slot_same (slot 0 at) poses 0 _ (omega (arith, four)) c.slot_agrees-first.ensures,
      slot_same (slot 1 (at + 112)) poses 1 _ (omega (arith, four)) c.slot_agrees-second.ensures,
      slot_same (slot 2 (at + 224)) poses 2 _ (omega (arith, four)) c.slot_agrees-third.ensures,
      slot_same (slot 3 (at + 336)) poses 3 _ (omega (arith, four)) c.slot_agrees-fourth.ensures,
    )
