-- `eigenvector_from_row_crosses` of lambdatwist.rs: the longest cross product of two rows of
-- matrix - eigenvalue, divided by its length.
use Rattle.std.specs.Prelude.{◌&&◌, Float, if◌then◌else◌}
use Rattle.std.specs.Float.Ieee.{lt}
use Rattle.std.specs.Float.Ieee.Scale.{finite}
use Rattle.ieee754.specs.Literal.{min_positive}
use Rattle.ieee754.specs.TotalOrder.{total_cmp}
use Rattle.ieee754.specs.Traced.{Traced, pure, ◌>>=◌, ◌⊖◌, !◌}
use Rattle.linalg.specs.Vectors.{vector, cross, norm_squared, norm, vec_div}
use Rattle.eigen.specs.Types.{Ordering, Less, Equal, Greater, Option, Some, None}
use Rattle.eigen.specs.Types.{Vector3, Matrix3}

-- `max_by` keeps what it has only where that compares greater: of equals the last wins
unfoldable pub last_greatest : Ordering → Vector3 → Vector3 → Vector3
last_greatest Less left right = right
last_greatest Equal left right = right
last_greatest Greater left right = left

-- one step of .max_by(|left, right| left.norm_squared().total_cmp(&right.norm_squared()))
unfoldable pub longer : Vector3 → Vector3 → Traced Vector3
longer left right = do
  l ← norm_squared left
  r ← norm_squared right
  pure (last_greatest (total_cmp l r) left right)

-- The division is an argument of `then_some`: it is made whatever the test says.
-- let norm = vector.norm();
-- (norm > f64::MIN_POSITIVE && norm.is_finite()).then_some(vector / norm)
unfoldable pub unit_vector : Vector3 → Traced (Option Vector3)
unit_vector v = do
  vector_norm ← norm v
  unit ← vec_div v vector_norm
  pure (if lt min_positive vector_norm && finite vector_norm then Some unit else None)

unfoldable pub eigenvector_from_row_crosses : Matrix3 → Float → Traced (Option Vector3)
eigenvector_from_row_crosses m eigenvalue = do
  -- let row0 = Vector3::new(matrix[(0, 0)] - eigenvalue, matrix[(0, 1)], matrix[(0, 2)]); and so on
  x0 ← ! m.m00 ⊖ ! eigenvalue
  y1 ← ! m.m11 ⊖ ! eigenvalue
  z2 ← ! m.m22 ⊖ ! eigenvalue
  -- [row0.cross(&row1), row0.cross(&row2), row1.cross(&row2)]
  c01 ← cross (vector x0 m.m01 m.m02) (vector m.m10 y1 m.m12)
  c02 ← cross (vector x0 m.m01 m.m02) (vector m.m20 m.m21 z2)
  c12 ← cross (vector m.m10 y1 m.m12) (vector m.m20 m.m21 z2)
  best ← longer c01 c02
  longest ← longer best c12
  unit_vector longest
