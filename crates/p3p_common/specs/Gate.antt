-- What becomes of a pose recovered from edges and positive depths: push_pose_with_cheirality of
-- pose/p3p/common.rs where `edge_basis_with_positive_depths` holds, with the test of
-- push_valid_rotation.
use Rattle.std.specs.Prelude.{not, if◌then◌else◌}
use Rattle.ieee754.specs.Traced.{Traced, pure, ◌>>=◌, with_some}
use Rattle.linalg.specs.Vectors.{all_finite, vec_sub}
use Rattle.linalg.specs.Matrices.{mat_vec}
use Rattle.frames.specs.Poses.{camera_point}
use Rattle.p3p_common.specs.Types.{Vector3, Matrix3, Pose, P3pInput, Gated, Passed, Projected}
use Rattle.p3p_common.specs.Types.{Dropped}
use Rattle.p3p_common.specs.NearOrthonormal.{has_near_orthonormal_columns}
use Rattle.p3p_common.specs.ProjectToRotation.{project_to_rotation}
use Rattle.p3p_common.specs.ProjectedPose.{projected_pose_fits_minimal_sample}

-- push_valid_rotation: a translation that is not finite drops the pose
unfoldable pub if_valid : (Pose → Gated) → Pose → Gated
if_valid gated pose = if not (all_finite pose.translation) then Dropped else gated pose

-- the pose with its projected rotation: camera point 0 is kept, and all three rays must fit
unfoldable pub keep_point0 : P3pInput → Matrix3 → Vector3 → Matrix3 → Traced Gated
keep_point0 input raw_rotation translation rotation = do
  -- let camera0 = raw_rotation * self.world[0] + translation;
  let raw : Pose = record { rotation = raw_rotation; translation = translation }
  camera0 ← camera_point raw input.world.p0
  -- let translation = camera0 - rotation * self.world[0];
  turned ← mat_vec rotation input.world.p0
  kept ← vec_sub camera0 turned
  let pose : Pose = record { rotation = rotation; translation = kept }
  fits ← projected_pose_fits_minimal_sample input pose
  pure (if not fits then Dropped else if_valid Projected pose)

unfoldable pub projected_gate : P3pInput → Matrix3 → Vector3 → Traced Gated
projected_gate input raw_rotation translation = do
  projection ← project_to_rotation raw_rotation
  with_some projection (pure Dropped) (keep_point0 input raw_rotation translation)

unfoldable pub gate : P3pInput → Matrix3 → Vector3 → Traced Gated
gate input raw_rotation translation = do
  is_near_rotation ← has_near_orthonormal_columns raw_rotation
  let pose : Pose = record { rotation = raw_rotation; translation = translation }
  if is_near_rotation then pure (if_valid Passed pose) else projected_gate input raw_rotation translation
