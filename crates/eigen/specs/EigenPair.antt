-- The two eigenvalues that are not known: the second part of `eig_with_known_zero`
-- (lambdatwist.rs). They are the roots of a quadratic, the greater in magnitude first; a
-- quadratic's refusal ends the solve. Whether the pair was lifted is handed on.
use Rattle.std.specs.Prelude.{◌||◌, Float, if◌then◌else◌}
use Rattle.std.specs.Float.Ieee.{lt, eq}
use Rattle.ieee754.specs.Literal.{plus_zero}
use Rattle.ieee754.specs.Magnitude.{abs}
use Rattle.ieee754.specs.Traced.{Traced, pure, ◌>>=◌, ◌⊗◌, ◌⊕◌, ◌⊖◌, !◌, ⊝◌, with_some}
use Rattle.linalg.specs.Matrices.{trace}
use Rattle.polynomial.specs.Answer.{pair_of}
use Rattle.polynomial.specs.Quadratic.{quadratic_real_monic}
use Rattle.eigen.specs.Types.{Option, Some, None, Matrix3, RootPair}

-- -off_diagonal_squared - matrix[(0, 2)] * matrix[(0, 2)] - matrix[(1, 2)] * matrix[(1, 2)]
--     + matrix[(0, 0)] * (matrix[(1, 1)] + matrix[(2, 2)])
--     + matrix[(1, 1)] * matrix[(2, 2)]
unfoldable pub pair_coefficient : Matrix3 → Float → Traced Float
pair_coefficient m off_diagonal_squared =
    ⊝ ! off_diagonal_squared ⊖ ! m.m02 ⊗ ! m.m02 ⊖ ! m.m12 ⊗ ! m.m12
    ⊕ ! m.m00 ⊗ (! m.m11 ⊕ ! m.m22)
    ⊕ ! m.m11 ⊗ ! m.m22

-- if first_value == 0.0 || second_value == 0.0 { return None; }
unfoldable pub nonzero_pair : RootPair → Option RootPair
nonzero_pair pair =
    if eq pair.first plus_zero || eq pair.second plus_zero then None else Some pair

-- if first_value.abs() < second_value.abs() {
--     std::mem::swap(&mut first_value, &mut second_value); }
unfoldable pub by_magnitude : RootPair → Option RootPair
by_magnitude pair =
    if lt (abs pair.first) (abs pair.second) then
    nonzero_pair (record { first = pair.second; second = pair.first; lifted = pair.lifted })
    else nonzero_pair pair

unfoldable pub eigenvalue_pair : Matrix3 → Float → Traced (Option RootPair)
eigenvalue_pair m off_diagonal_squared = do
  -- let trace_coefficient = -matrix.trace();
  trace_coefficient ← ⊝ trace m
  pair_term ← pair_coefficient m off_diagonal_squared
  roots ← quadratic_real_monic trace_coefficient pair_term
  with_some (pair_of roots) (pure None) (λ pair. pure (by_magnitude pair))
