-- The eigenvector of a nonzero eigenvalue: the closure `eigenvector` of `eig_with_known_zero`
-- (lambdatwist.rs), and what is computed before it for both values.
use Rattle.std.specs.Prelude.{not, ◌||◌, Float, if◌then◌else◌}
use Rattle.std.specs.Float.Ieee.{le}
use Rattle.std.specs.Float.Ieee.Scale.{finite}
use Rattle.ieee754.specs.Literal.{one, sixty_four, epsilon, min_positive}
use Rattle.ieee754.specs.Magnitude.{abs}
use Rattle.ieee754.specs.Maximum.{max}
use Rattle.ieee754.specs.Traced.{Traced, pure, ◌>>=◌, ◌⊗◌, ◌⊕◌, ◌⊖◌, ◌⊘◌, !◌, ⊝◌, √◌}
use Rattle.linalg.specs.Vectors.{vector, all_finite}
use Rattle.eigen.specs.RowCrosses.{eigenvector_from_row_crosses}
use Rattle.eigen.specs.Types.{Option, Some, None, Vector3, Matrix3, Precomputed}

-- let product00_11 = -matrix[(0, 0)] * matrix[(1, 1)];
-- let precomputed0 = matrix[(0, 1)] * matrix[(1, 2)] - matrix[(0, 2)] * matrix[(1, 1)];
-- let precomputed1 = matrix[(0, 1)] * matrix[(0, 2)] - matrix[(0, 0)] * matrix[(1, 2)];
unfoldable pub precompute : Matrix3 → Float → Traced Precomputed
precompute m off_diagonal_squared = do
  product ← ⊝ ! m.m00 ⊗ ! m.m11
  precomputed0 ← ! m.m01 ⊗ ! m.m12 ⊖ ! m.m02 ⊗ ! m.m11
  precomputed1 ← ! m.m01 ⊗ ! m.m02 ⊖ ! m.m00 ⊗ ! m.m12
  pure (record {
    square = off_diagonal_squared;
    product = product;
    precomputed0 = precomputed0;
    precomputed1 = precomputed1;
  })

-- eigenvalue * (matrix[(0, 0)] + matrix[(1, 1)]) + product00_11
--     - eigenvalue * eigenvalue + off_diagonal_squared
unfoldable pub eigen_denominator : Matrix3 → Precomputed → Float → Traced Float
eigen_denominator m p eigenvalue =
    ! eigenvalue ⊗ (! m.m00 ⊕ ! m.m11) ⊕ ! p.product
    ⊖ ! eigenvalue ⊗ ! eigenvalue ⊕ ! p.square

-- (eigenvalue * (matrix[(0, 0)] + matrix[(1, 1)])).abs() + product00_11.abs()
--     + eigenvalue * eigenvalue + off_diagonal_squared
unfoldable pub denominator_scale : Matrix3 → Precomputed → Float → Traced Float
denominator_scale m p eigenvalue = do
  linear ← ! eigenvalue ⊗ (! m.m00 ⊕ ! m.m11)
  ! abs linear ⊕ ! abs p.product ⊕ ! eigenvalue ⊗ ! eigenvalue ⊕ ! p.square

-- vector.iter().all(|value| value.is_finite()).then_some(vector)
unfoldable pub if_finite : Vector3 → Option Vector3
if_finite v = if all_finite v then Some v else None

unfoldable pub eigenvector_by_division : Matrix3 → Precomputed → Float → Float
    → Traced (Option Vector3)
eigenvector_by_division m p eigenvalue denominator = do
  -- let first = -(eigenvalue * matrix[(0, 2)] + precomputed0) / denominator;
  first ← ⊝ (! eigenvalue ⊗ ! m.m02 ⊕ ! p.precomputed0) ⊘ ! denominator
  -- let second = -(eigenvalue * matrix[(1, 2)] + precomputed1) / denominator;
  second ← ⊝ (! eigenvalue ⊗ ! m.m12 ⊕ ! p.precomputed1) ⊘ ! denominator
  -- let inverse_norm = (first * first + second * second + 1.0).sqrt().recip();
  inverse_norm ← ! one ⊘ √ (! first ⊗ ! first ⊕ ! second ⊗ ! second ⊕ ! one)
  -- Vector3::new(first * inverse_norm, second * inverse_norm, inverse_norm)
  x ← ! first ⊗ ! inverse_norm
  y ← ! second ⊗ ! inverse_norm
  pure (if_finite (vector x y inverse_norm))

unfoldable pub eigenvector_of : Matrix3 → Precomputed → Float → Traced (Option Vector3)
eigenvector_of m p eigenvalue = do
  denominator ← eigen_denominator m p eigenvalue
  scale ← denominator_scale m p eigenvalue
  -- denominator.abs() <= 64.0 * f64::EPSILON * denominator_scale.max(f64::MIN_POSITIVE)
  --     || !denominator.is_finite()
  limit ← ! sixty_four ⊗ ! epsilon ⊗ ! max scale min_positive
  if le (abs denominator) limit || not (finite denominator) then
      eigenvector_from_row_crosses m eigenvalue
      else eigenvector_by_division m p eigenvalue denominator
