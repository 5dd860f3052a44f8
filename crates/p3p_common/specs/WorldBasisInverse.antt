-- world_basis_inverse of pose/p3p/common.rs: the inverse of the matrix of two edges and their cross
-- product, by its rows, or nothing where the edges are near to parallel.
use Rattle.std.specs.Prelude.{Bool, true, not, Float, if◌then◌else◌}
use Rattle.std.specs.Float.Ieee.{le}
use Rattle.std.specs.Float.Ieee.Scale.{finite}
use Rattle.ieee754.specs.Literal.{one, sixty_four, epsilon}
use Rattle.ieee754.specs.Maximum.{max}
use Rattle.ieee754.specs.Traced.{Traced, pure, ◌>>=◌, ◌⊗◌, ◌⊘◌, !◌}
use Rattle.linalg.specs.Vectors.{norm_squared, cross, vec_mul}
use Rattle.linalg.specs.Matrices.{from_rows}
use Rattle.p3p_common.specs.Types.{Vector3, Matrix3, Option, Some, None}

-- let inverse_determinant = determinant.recip();
-- let dual_first = second_edge.cross(&normal) * inverse_determinant;
-- let dual_second = normal.cross(&first_edge) * inverse_determinant;
-- let dual_normal = normal * inverse_determinant;
unfoldable pub dual_basis : Vector3 → Vector3 → Vector3 → Float → Traced Matrix3
dual_basis first_edge second_edge normal determinant = do
  inverse_determinant ← ! one ⊘ ! determinant
  to_first ← cross second_edge normal
  dual_first ← vec_mul to_first inverse_determinant
  to_second ← cross normal first_edge
  dual_second ← vec_mul to_second inverse_determinant
  dual_normal ← vec_mul normal inverse_determinant
  pure (from_rows dual_first dual_second dual_normal)

-- !determinant.is_finite()
--     || determinant <= 64.0 * f64::EPSILON * geometry_scale_squared * geometry_scale_squared:
-- the product is reached only where the determinant is finite
unfoldable pub is_singular : Float → Float → Traced Bool
is_singular determinant geometry_scale_squared =
    if not (finite determinant) then pure true
    else do
      limit ← ! sixty_four ⊗ ! epsilon ⊗ ! geometry_scale_squared ⊗ ! geometry_scale_squared
      pure (le determinant limit)

-- the larger of the two squared lengths is the geometry's scale squared
unfoldable pub world_basis_inverse : Vector3 → Vector3 → Traced (Option Matrix3)
world_basis_inverse first_edge second_edge = do
  normal ← cross first_edge second_edge
  determinant ← norm_squared normal
  first_squared ← norm_squared first_edge
  second_squared ← norm_squared second_edge
  singular ← is_singular determinant (max first_squared second_squared)
  if singular then pure None
      else do
        inverse ← dual_basis first_edge second_edge normal determinant
        pure (Some inverse)
