-- has_near_orthonormal_columns of pose/p3p/common.rs: a column error of at most 1e-10 passes.
use Rattle.std.specs.Prelude.{Bool}
use Rattle.std.specs.Float.Ieee.{le}
use Rattle.ieee754.specs.Literal.{one}
use Rattle.ieee754.specs.Magnitude.{abs}
use Rattle.ieee754.specs.Traced.{Traced, pure, ◌>>=◌, ◌⊕◌, ◌⊖◌, !◌}
use Rattle.linalg.specs.Vectors.{dot, norm_squared}
use Rattle.linalg.specs.Matrices.{column0, column1, column2}
use Rattle.p3p_common.specs.Types.{Matrix3}
use Rattle.p3p_common.specs.Literal.{near_rotation_tolerance}

-- (first.norm_squared() - 1.0).abs()
--     + (second.norm_squared() - 1.0).abs()
--     + (third.norm_squared() - 1.0).abs()
--     + first.dot(&second).abs()
--     + first.dot(&third).abs()
--     + second.dot(&third).abs() <= NEAR_ROTATION_TOLERANCE
unfoldable pub has_near_orthonormal_columns : Matrix3 → Traced Bool
has_near_orthonormal_columns matrix =
    let first = column0 matrix in
    let second = column1 matrix in
    let third = column2 matrix in
    do
      excess0 ← norm_squared first ⊖ ! one
      excess1 ← norm_squared second ⊖ ! one
      excess2 ← norm_squared third ⊖ ! one
      dot01 ← dot first second
      dot02 ← dot first third
      dot12 ← dot second third
      error ← ! abs excess0 ⊕ ! abs excess1 ⊕ ! abs excess2
          ⊕ ! abs dot01 ⊕ ! abs dot02 ⊕ ! abs dot12
      pure (le error near_rotation_tolerance)
