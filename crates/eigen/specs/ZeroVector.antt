-- The eigenvector of the known eigenvalue zero: the first part of `eig_with_known_zero`
-- (lambdatwist.rs). It becomes the third column of the eigenvectors, which the solve never reads;
-- but where it is missing the solve ends.
use Rattle.std.specs.Prelude.{if◌then◌else◌}
use Rattle.std.specs.Float.Ieee.{le}
use Rattle.ieee754.specs.Literal.{plus_zero, sixty_four, epsilon}
use Rattle.ieee754.specs.Traced.{Traced, pure, ◌>>=◌, ◌⊗◌, ◌⊖◌, !◌, √◌}
use Rattle.linalg.specs.Vectors.{vector, norm_squared, vec_div}
use Rattle.linalg.specs.Matrices.{mat_norm_squared}
use Rattle.eigen.specs.RowCrosses.{eigenvector_from_row_crosses}
use Rattle.eigen.specs.Types.{Option, Some, Vector3, Matrix3}

-- Vector3::new(
--     matrix[(0, 1)] * matrix[(1, 2)] - matrix[(0, 2)] * matrix[(1, 1)],
--     matrix[(0, 2)] * matrix[(0, 1)] - matrix[(1, 2)] * matrix[(0, 0)],
--     matrix[(1, 1)] * matrix[(0, 0)] - matrix[(0, 1)] * matrix[(0, 1)])
unfoldable pub zero_direction : Matrix3 → Traced Vector3
zero_direction m = do
  x ← ! m.m01 ⊗ ! m.m12 ⊖ ! m.m02 ⊗ ! m.m11
  y ← ! m.m02 ⊗ ! m.m01 ⊖ ! m.m12 ⊗ ! m.m00
  z ← ! m.m11 ⊗ ! m.m00 ⊖ ! m.m01 ⊗ ! m.m01
  pure (vector x y z)

unfoldable pub zero_vector : Matrix3 → Traced (Option Vector3)
zero_vector m = do
  direction ← zero_direction m
  zero_norm_squared ← norm_squared direction
  matrix_scale ← mat_norm_squared m
  -- if zero_norm_squared <= 64.0 * f64::EPSILON * matrix_scale * matrix_scale
  limit ← ! sixty_four ⊗ ! epsilon ⊗ ! matrix_scale ⊗ ! matrix_scale
  if le zero_norm_squared limit then eigenvector_from_row_crosses m plus_zero
      else do
        -- zero_vector /= zero_norm_squared.sqrt();
        zero_norm ← √ ! zero_norm_squared
        unit ← vec_div direction zero_norm
        pure (Some unit)
