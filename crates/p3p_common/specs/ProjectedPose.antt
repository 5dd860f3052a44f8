-- projected_pose_fits_minimal_sample of pose/p3p/common.rs: `all` ends at the first observation
-- that does not fit, and the rest are not reached.
use Rattle.std.specs.Prelude.{Bool, false, not, if◌then◌else◌}
use Rattle.ieee754.specs.Traced.{Traced, pure, ◌>>=◌}
use Rattle.frames.specs.Poses.{camera_point}
use Rattle.p3p_common.specs.Types.{Vector3, Pose, P3pInput}
use Rattle.p3p_common.specs.RayFits.{ray_fits}

unfoldable pub observation_fits : Pose → Vector3 → Vector3 → Traced Bool
observation_fits pose world bearing = do
  camera ← camera_point pose world
  ray_fits camera bearing

unfoldable pub projected_pose_fits_minimal_sample : P3pInput → Pose → Traced Bool
projected_pose_fits_minimal_sample input pose =
    let record { p0 = p0; p1 = p1; p2 = p2 } = input.world in
    let record { f0 = f0; f1 = f1; f2 = f2 } = input.bearings in
    do
      fits0 ← observation_fits pose p0 f0
      if not fits0 then pure false
          else do
            fits1 ← observation_fits pose p1 f1
            if not fits1 then pure false else observation_fits pose p2 f2
