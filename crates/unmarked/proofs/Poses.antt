-- The poses: as many, the same in the same order and after the same updates, where they are marked
-- and where they are not. Assumes nothing.
use Rattle.std.proofs.Common.{◌≡◌, ℕ, ◌+◌, Bool, not, ltb, List, [], ◌∷◌, take, set, refl, ap}
use Rattle.std.proofs.lemmas.List.{take-map}
use Rattle.linalg.specs.Vectors.{vec_sub, vec_mul}
use Rattle.linalg.specs.Matrices.{mat_vec}
use Rattle.refinement.specs.RefineDepths.{refine_depths}
use Rattle.p3p_common.specs.Gate.{gate}
use Rattle.p3p_common.specs.RotationFromEdges.{rotation_from_edges}
use Rattle.p3p_common.specs.Slots.{empty, push}
use Rattle.p3p_common.specs.PushPose.{push_gated, push_pose}
use Rattle.p3p_common.specs.declared.solutions.Solutions.{Solutions}
use Rattle.depths.specs.declared.candidates.Candidate.{Candidate}
use Rattle.depths.specs.declared.candidates.Candidates.{Candidates}
use Rattle.lambdatwist.specs.Poses.{all_positive, push_depths, pose_turn, pose_turns, poses}
use Rattle.unmarked.specs.Slots as before-slots
use Rattle.unmarked.specs.Poses as before
use Rattle.unmarked.specs.Types as unmarked
use Rattle.unmarked.specs.Types.{Vector3, Matrix3, Pose, P3pInput, Gated, Passed, Projected}
use Rattle.unmarked.specs.Types.{Dropped, Refined, Measured}
use Rattle.unmarked.proofs.Forgets.{Forgets, choose, pure, if◌then◌else◌, ◌>>=◌, ◌>>≡◌}
use Rattle.unmarked.proofs.Candidates.{depths_of, SameCandidates}

pub record SameSolutions (s : Solutions) (s' : unmarked.Solutions) : Type 0 where
  pub count : s.count ≡ s'.count
  pub poses : s.poses ≡ s'.poses
  pub updates : s.updates ≡ s'.updates

-- ---- the slots
pub empty-forgets : SameSolutions empty before-slots.empty
unfolding empty before-slots.empty
empty-forgets = record { count = refl; poses = refl; updates = refl }

module _ {s : Solutions} {s' : unmarked.Solutions} (S : SameSolutions s s') where
  push-forgets : (pose : Pose) (updates : ℕ) (lifted : Bool)
      → SameSolutions (push s pose updates lifted) (before-slots.push s' pose updates)
  unfolding push before-slots.push
  push-forgets pose updates lifted =
      choose SameSolutions (ap (λ (n : ℕ). ltb n 4) S.count)
      (record {
        count = ap (λ (n : ℕ). n + 1) S.count;
        poses = λ i. set (S.poses i) (S.count i) pose;
        updates = λ i. set (S.updates i) (S.count i) updates;
      })
      S

  push_gated-forgets : (gated : Gated) (updates : ℕ) (lifted : Bool)
      → SameSolutions (push_gated s gated updates lifted) (before-slots.push_gated s' gated updates)
  unfolding push_gated before-slots.push_gated
  push_gated-forgets (Passed pose) updates lifted = push-forgets pose updates lifted
  push_gated-forgets (Projected pose) updates lifted = push-forgets pose updates lifted
  push_gated-forgets Dropped updates lifted = S

  push_pose-forgets : (input : P3pInput) (rotation : Matrix3) (translation : Vector3) (updates : ℕ)
      (lifted : Bool)
      → Forgets SameSolutions
      (push_pose input s rotation translation updates lifted)
      (before-slots.push_pose input s' rotation translation updates)
  unfolding push_pose before-slots.push_pose
  push_pose-forgets input rotation translation updates lifted =
      gate input rotation translation >>≡ λ gated.
      pure (push_gated-forgets gated updates lifted)

-- ---- the turns
module _ (input : P3pInput) (measured : Measured) (world_inverse : Matrix3) where
  module _ {s : Solutions} {s' : unmarked.Solutions} (S : SameSolutions s s') where
    push_depths-forgets : (refined : Refined) (lifted : Bool)
        → Forgets SameSolutions
        (push_depths input measured world_inverse s refined lifted)
        (before.push_depths input measured world_inverse s' refined)
    unfolding push_depths before.push_depths
    push_depths-forgets refined lifted =
        vec_mul measured.bearings.f0 refined.depths.x >>≡ λ camera0.
        vec_mul measured.bearings.f1 refined.depths.y >>≡ λ camera1.
        vec_mul measured.bearings.f2 refined.depths.z >>≡ λ camera2.
        vec_sub camera0 camera1 >>≡ λ edge01.
        vec_sub camera0 camera2 >>≡ λ edge02.
        rotation_from_edges edge01 edge02 world_inverse >>≡ λ rotation.
        mat_vec rotation measured.p0 >>≡ λ turned.
        vec_sub camera0 turned >>≡ λ translation.
        push_pose-forgets S input rotation translation refined.updates lifted

    pose_turn-forgets : (c : Candidate)
        → Forgets SameSolutions
        (pose_turn input measured world_inverse s c)
        (before.pose_turn input measured world_inverse s' c.depths)
    unfolding pose_turn before.pose_turn
    pose_turn-forgets c =
        refine_depths c.depths measured.squares measured.cosines 5 >>≡ λ refined.
        if not (all_positive refined.depths) then pure S
        else push_depths-forgets refined c.lifted

  pose_turns-forgets : (cs : List Candidate) {s : Solutions} {s' : unmarked.Solutions}
      → SameSolutions s s'
      → Forgets SameSolutions
      (pose_turns input measured world_inverse cs s)
      (before.pose_turns input measured world_inverse (depths_of cs) s')
  unfolding pose_turns before.pose_turns
  pose_turns-forgets [] output = pure output
  pose_turns-forgets (c ∷ rest) output =
      pose_turn-forgets output c >>= λ _ _ next.
      pose_turns-forgets rest next

  pub poses-forgets : {c : Candidates} {c' : unmarked.Candidates}
      → SameCandidates c c'
      → Forgets SameSolutions
      (poses input measured world_inverse c)
      (before.poses input measured world_inverse c')
  unfolding poses before.poses
  poses-forgets {c} found =
      rw (
        ← found.count,
        ← found.depths,
        take-map (λ (x : Candidate). x.depths) c.count c.slots,
      )
      (pose_turns-forgets (take c.count c.slots) empty-forgets)
