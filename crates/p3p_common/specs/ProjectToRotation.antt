-- project_to_rotation of pose/p3p/common.rs: modified Gram-Schmidt on the first two columns, their
-- cross product for the third. The Rust writes `f64::EPSILON.sqrt()` in both tests; here it is
-- computed once.
use Rattle.std.specs.Prelude.{not, if◌then◌else◌}
use Rattle.std.specs.Float.Ieee.{le}
use Rattle.ieee754.specs.Literal.{epsilon}
use Rattle.ieee754.specs.Traced.{Traced, pure, ◌>>=◌, !◌, √◌}
use Rattle.linalg.specs.Vectors.{dot, norm, cross, vec_sub, vec_mul, vec_div}
use Rattle.linalg.specs.Matrices.{column0, column1, from_columns, mat_finite}
use Rattle.p3p_common.specs.Types.{Matrix3, Option, Some, None}

unfoldable pub project_to_rotation : Matrix3 → Traced (Option Matrix3)
project_to_rotation matrix =
    if not (mat_finite matrix) then pure None
    else do
      let first = column0 matrix
      first_norm ← norm first
      root_epsilon ← √ ! epsilon
      if le first_norm root_epsilon then pure None
          else do
            first ← vec_div first first_norm
            -- matrix.column(1).into_owned() - first * first.dot(&matrix.column(1))
            along ← dot first (column1 matrix)
            parallel ← vec_mul first along
            second ← vec_sub (column1 matrix) parallel
            second_norm ← norm second
            if le second_norm root_epsilon then pure None
                else do
                  second ← vec_div second second_norm
                  third ← cross first second
                  pure (Some (from_columns first second third))
