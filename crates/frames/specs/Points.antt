-- The world of three points, whether it is finite, and the bearings of three rays.
use Rattle.std.specs.Prelude.{Bool, ◌&&◌}
use Rattle.linalg.specs.Vectors.{all_finite}
use Rattle.frames.specs.Types.{Vector3, World, Bearings}

abbrev pub points : Vector3 → Vector3 → Vector3 → World
points p0 p1 p2 = record { p0 = p0; p1 = p1; p2 = p2 }

-- are all nine coordinates finite?
unfoldable pub world_finite : World → Bool
world_finite world = all_finite world.p0 && all_finite world.p1 && all_finite world.p2

abbrev pub rays : Vector3 → Vector3 → Vector3 → Bearings
rays f0 f1 f2 = record { f0 = f0; f1 = f1; f2 = f2 }
