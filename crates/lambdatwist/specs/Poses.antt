-- From depth candidates to poses: the end of `solve_ordered` (lambdatwist.rs). Each candidate is
-- refined, and where its depths are positive a pose is made of it and goes to the gate. The pose
-- has its candidate's mark.
use Rattle.std.specs.Prelude.{Bool, ◌&&◌, not, List, [], ◌∷◌, take, if◌then◌else◌}
use Rattle.std.specs.Float.Ieee.{le}
use Rattle.ieee754.specs.Literal.{plus_zero}
use Rattle.ieee754.specs.Traced.{Traced, pure, ◌>>=◌}
use Rattle.linalg.specs.Vectors.{vec_sub, vec_mul, all_finite}
use Rattle.linalg.specs.Matrices.{mat_vec}
use Rattle.refinement.specs.RefineDepths.{refine_depths}
use Rattle.p3p_common.specs.RotationFromEdges.{rotation_from_edges}
use Rattle.p3p_common.specs.Slots.{empty}
use Rattle.p3p_common.specs.PushPose.{push_pose}
use Rattle.lambdatwist.specs.Types.{Vector3, Matrix3, P3pInput, Refined, Solutions, Measured}
use Rattle.lambdatwist.specs.Types.{Candidate, Candidates}

-- !depth.iter().any(|value| !value.is_finite() || *value <= 0.0)
unfoldable pub all_positive : Vector3 → Bool
all_positive d =
    all_finite d
    && (not (le d.x plus_zero) && (not (le d.y plus_zero) && not (le d.z plus_zero)))

-- from `let camera0 = depth[0] * f0;` to the push, with the factors of these three products
-- exchanged
unfoldable pub push_depths : P3pInput → Measured → Matrix3 → Solutions → Refined → Bool
    → Traced Solutions
push_depths input measured world_inverse output refined lifted = do
  camera0 ← vec_mul measured.bearings.f0 refined.depths.x
  camera1 ← vec_mul measured.bearings.f1 refined.depths.y
  camera2 ← vec_mul measured.bearings.f2 refined.depths.z
  edge01 ← vec_sub camera0 camera1
  edge02 ← vec_sub camera0 camera2
  rotation ← rotation_from_edges edge01 edge02 world_inverse
  -- let translation = camera0 - rotation * p0;
  turned ← mat_vec rotation measured.p0
  translation ← vec_sub camera0 turned
  push_pose input output rotation translation refined.updates lifted

-- one turn of for depth in depths.iter_mut().take(depth_count) { .. }
unfoldable pub pose_turn : P3pInput → Measured → Matrix3 → Solutions → Candidate → Traced Solutions
pose_turn input measured world_inverse output candidate = do
  refined ← refine_depths candidate.depths measured.squares measured.cosines 5
  if not (all_positive refined.depths) then pure output
      else push_depths input measured world_inverse output refined candidate.lifted

-- the turns for a list of candidates, in its order
unfoldable pub pose_turns : P3pInput → Measured → Matrix3 → List Candidate → Solutions
    → Traced Solutions
pose_turns input measured world_inverse [] output = pure output
pose_turns input measured world_inverse (candidate ∷ rest) output = do
  next ← pose_turn input measured world_inverse output candidate
  pose_turns input measured world_inverse rest next

-- for depth in depths.iter_mut().take(depth_count) { .. }
unfoldable pub poses : P3pInput → Measured → Matrix3 → Candidates → Traced Solutions
poses input measured world_inverse found =
    pose_turns input measured world_inverse (take found.count found.slots) empty
