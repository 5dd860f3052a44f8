-- The score of a pose by a fourth target, which only a pose with the target before the camera has.
use Rattle.std.specs.Prelude.{Float, if◌then◌else◌}
use Rattle.std.specs.Float.Ieee.{lt}
use Rattle.ieee754.specs.Literal.{plus_zero}
use Rattle.ieee754.specs.Traced.{Traced, pure, ◌>>=◌, ◌⊗◌, ◌⊘◌, !◌}
use Rattle.linalg.specs.Vectors.{dot, norm_squared, cross}
use Rattle.choice.specs.Types.{Vector3, Pose, Option, Some, None}
use Rattle.frames.specs.Poses.{camera_point}

-- Camera = R × target + t; score = |camera × bearing|² ÷ (camera · bearing)². "A pose has a score
-- only where camera · bearing is above zero"; a NaN is not.
unfoldable pub score : Pose → Vector3 → Vector3 → Traced (Option Float)
score pose target bearing = do
  camera ← camera_point pose target
  depth ← dot camera bearing
  if lt plus_zero depth then (do
    normal ← cross camera bearing
    off_ray ← norm_squared normal
    value ← ! off_ray ⊘ (! depth ⊗ ! depth)
    pure (Some value))
      else pure None
