-- ray_fits of pose/p3p/common.rs: a camera point lies in front, within 2 ^ -20 of its bearing's
-- direction.
use Rattle.std.specs.Prelude.{Bool, false, ◌&&◌, if◌then◌else◌}
use Rattle.std.specs.Float.Ieee.{lt, le}
use Rattle.std.specs.Float.Ieee.Scale.{finite}
use Rattle.ieee754.specs.Literal.{plus_zero}
use Rattle.ieee754.specs.Traced.{Traced, pure, ◌>>=◌, ◌⊗◌, !◌}
use Rattle.linalg.specs.Vectors.{dot, norm_squared, cross}
use Rattle.p3p_common.specs.Types.{Vector3}
use Rattle.p3p_common.specs.Literal.{projected_ray_tolerance}

-- ray_depth.is_finite() && ray_depth > 0.0
--     && camera.cross(bearing).norm_squared()
--         <= PROJECTED_RAY_TOLERANCE * PROJECTED_RAY_TOLERANCE * ray_depth * ray_depth:
-- the cross product is reached only where the depth is finite and above zero
unfoldable pub ray_fits : Vector3 → Vector3 → Traced Bool
ray_fits camera bearing = do
  ray_depth ← dot camera bearing
  if finite ray_depth && lt plus_zero ray_depth then (do
    normal ← cross camera bearing
    off_ray ← norm_squared normal
    limit ← ! projected_ray_tolerance ⊗ ! projected_ray_tolerance ⊗ ! ray_depth ⊗ ! ray_depth
    pure (le off_ray limit))
      else pure false
