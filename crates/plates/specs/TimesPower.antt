-- Multiplying all coordinates by 2^k: document 02, §4, "k outside -64 to 64 is 12, a coordinate
-- that is nonfinite, or whose exact scaled value has magnitude 2^1024 or more, or a nonzero one
-- below 2^-1022, is 13, asked in that order". `scalable` is the test of 13, the other way round,
-- and the product is exact.
use Rattle.std.specs.Prelude.{Bool, not, ◌&&◌, ℤ, if◌then◌else◌}
use Rattle.ieee754.specs.Scaling.{scale}
use Rattle.scaleb.specs.Scalable.{in_reach, scalable}
use Rattle.linalg.specs.Vectors.{vector}
use Rattle.frames.specs.Points.{points}
use Rattle.plates.specs.Outcome.{done, refused}
use Rattle.plates.specs.Types.{Vector3, World, Plate, Outcome}

unfoldable pub point_scalable : ℤ → Vector3 → Bool
point_scalable k p = scalable k p.x && scalable k p.y && scalable k p.z

unfoldable pub world_scalable : ℤ → World → Bool
world_scalable k world =
    point_scalable k world.p0 && point_scalable k world.p1 && point_scalable k world.p2

unfoldable pub scaled_point : ℤ → Vector3 → Vector3
scaled_point k p = vector (scale k p.x) (scale k p.y) (scale k p.z)

unfoldable pub scaled_world : ℤ → World → World
scaled_world k world =
    points (scaled_point k world.p0) (scaled_point k world.p1) (scaled_point k world.p2)

unfoldable pub times_power : Plate → ℤ → Outcome
times_power plate k =
    if not (in_reach k) then refused 12 plate
    else if not (world_scalable k plate.world) then refused 13 plate
    else done (scaled_world k plate.world)
