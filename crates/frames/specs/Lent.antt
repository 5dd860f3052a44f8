-- Points, bearings and poses among lent doubles, in the layout of include/p3p.h: x, y, z from a
-- place on. (The NaN stands past the end, where no function reads.)
use Rattle.std.specs.Prelude.{ℕ, ◌+◌, List, [], ◌∷◌, Float, get_or}
use Rattle.std.specs.Float.{nan}
use Rattle.linalg.specs.Vectors.{vector}
use Rattle.linalg.specs.Matrices.{from_columns}
use Rattle.frames.specs.Points.{points, rays}
use Rattle.frames.specs.Types.{Vector3, World, Bearings, Pose}

unfoldable pub vector_at : List Float → ℕ → Vector3
vector_at xs at = vector (get_or xs at nan) (get_or xs (at + 1) nan) (get_or xs (at + 2) nan)

unfoldable pub world_at : List Float → ℕ → World
world_at xs at = points (vector_at xs at) (vector_at xs (at + 3)) (vector_at xs (at + 6))

unfoldable pub bearings_at : List Float → ℕ → Bearings
bearings_at xs at = rays (vector_at xs at) (vector_at xs (at + 3)) (vector_at xs (at + 6))

-- the slot that begins at a place: the rotation by columns, and the translation
unfoldable pub pose_at : List Float → ℕ → Pose
pose_at xs at = record {
  rotation = from_columns (vector_at xs at) (vector_at xs (at + 3)) (vector_at xs (at + 6));
  translation = vector_at xs (at + 9);
}

-- and the twelve numbers of a pose, as `pose_at` reads them
unfoldable pub entries : Pose → List Float
entries p =
    p.rotation.m00 ∷ p.rotation.m10 ∷ p.rotation.m20
    ∷ p.rotation.m01 ∷ p.rotation.m11 ∷ p.rotation.m21
    ∷ p.rotation.m02 ∷ p.rotation.m12 ∷ p.rotation.m22
    ∷ p.translation.x ∷ p.translation.y ∷ p.translation.z ∷ []
