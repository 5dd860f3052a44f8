-- Every definition that vectors and matrices are computed with, opened at once: under `unfolding
-- evaluated` the operations on concrete ones compute. Assumes nothing.
use Rattle.ieee754.proofs.Evaluated.{evaluated as operations-evaluated}
use Rattle.linalg.specs.Vectors.{vec_sub, vec_add, vec_mul, vec_div, dot, norm_squared, norm}
use Rattle.linalg.specs.Vectors.{cross, abs_sum, all_finite}
use Rattle.linalg.specs.Matrices.{from_columns, from_rows, mat_vec, mat_mul, mat_norm_squared}
use Rattle.linalg.specs.Matrices.{trace, mat_finite}

unfoldable pub evaluated : Unit {0}
unfolding operations-evaluated vec_sub vec_add vec_mul vec_div dot norm_squared norm cross abs_sum
    all_finite from_columns from_rows mat_vec mat_mul mat_norm_squared trace mat_finite
evaluated = tt
