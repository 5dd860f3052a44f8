-- The poses of a solve's candidates are at most four, finite, and each after at most five updates;
-- the slots beyond them hold plus zeros and no mark. Assumes nothing.
use mathlib.Core.Bool.{Bool, not}
use mathlib.Core.List.{List, [], ◌∷◌}
use Prim.Native.Nat.{◌≤◌}
use lib.ListN.{take}
use Rattle.ieee754.specs.Traced.{Traced}
use Rattle.ieee754.proofs.Tests.{either_way}
use Rattle.linalg.proofs.Finite.{rotation-finite}
use Rattle.refinement.specs.RefineDepths.{refine_depths}
use Rattle.p3p_common.specs.Slots.{empty}
use Rattle.p3p_common.proofs.SlotLaws.{Kept, empty-kept, push_pose-kept}
use Rattle.refinement.proofs.FewUpdates.{updates-few}
use Rattle.lambdatwist.specs.Poses.{all_positive, push_depths, pose_turn, pose_turns, poses}
use Rattle.lambdatwist.specs.Types.{Matrix3, P3pInput, Measured, Refined, Solutions}
use Rattle.lambdatwist.specs.Types.{Candidate, Candidates}

module _ (input : P3pInput) (measured : Measured) (inverse : Matrix3) where
  push_depths-kept : (s : Solutions) (r : Refined) (lifted : Bool)
      → r.updates ≤ 5
      → Kept s
      → Kept (push_depths input measured inverse s r lifted).value
  unfolding push_depths
  push_depths-kept s r lifted h k =
      push_pose-kept input s _ _ r.updates lifted (rotation-finite _ _ measured.p0) h k

  pose_turn-kept : (s : Solutions) (c : Candidate)
      → Kept s
      → Kept (pose_turn input measured inverse s c).value
  unfolding pose_turn
  pose_turn-kept s c k =
      let squares = measured.squares in
      let cosines = measured.cosines in
      let refined = (refine_depths c.depths squares cosines 5).value in
      either_way (λ (m : Traced Solutions). Kept m.value) (not (all_positive refined.depths))
      (λ _. k)
      (λ _.
      push_depths-kept s refined c.lifted (updates-few squares cosines c.depths 5) k)

  pose_turns-kept : (l : List Candidate) (s : Solutions)
      → Kept s
      → Kept (pose_turns input measured inverse l s).value
  unfolding pose_turns
  pose_turns-kept [] s k = k
  pose_turns-kept (c ∷ l) s k =
      pose_turns-kept l (pose_turn input measured inverse s c).value (pose_turn-kept s c k)

  pub poses-kept : (found : Candidates) → Kept (poses input measured inverse found).value
  unfolding poses
  poses-kept found = pose_turns-kept (take found.count found.slots) empty empty-kept
