-- A pose of plus zeros, and the camera point of a world point under a pose:
-- `rotation * world + translation` of pose/p3p/common.rs, and document 01, module 8.
use Rattle.ieee754.specs.Traced.{Traced, ◌>>=◌}
use Rattle.linalg.specs.Vectors.{zeros, vec_add}
use Rattle.linalg.specs.Matrices.{from_columns, mat_vec}
use Rattle.frames.specs.Types.{Vector3, Pose}

-- a pose of plus zeros, as a slot that holds none
abbrev pub zero_pose : Pose
zero_pose = record { rotation = from_columns zeros zeros zeros; translation = zeros }

-- rotation * world + translation
unfoldable pub camera_point : Pose → Vector3 → Traced Vector3
camera_point pose world = do
  turned ← mat_vec pose.rotation world
  vec_add turned pose.translation
