-- The depth candidates of either sign of the ratio: the loop `for sign in [ratio, -ratio]` of
-- `solve_ordered` (lambdatwist.rs). Without marks.
use Rattle.std.specs.Prelude.{Float}
use Rattle.std.specs.Float.Ieee.{neg}
use Rattle.ieee754.specs.Traced.{Traced, ◌>>=◌}
use Rattle.linalg.specs.Vectors.{vec_sub, vec_mul}
use Rattle.linalg.specs.Matrices.{column0, column1}
use Rattle.unmarked.specs.DepthSlots.{no_candidates}
use Rattle.unmarked.specs.Charts.{chart}
use Rattle.unmarked.specs.Types.{Matrix3, SquaredEdges, Factors, Candidates}

-- the turn of one sign: let null_vector = eigenvectors.column(0) - sign * eigenvectors.column(1);
-- with the factors of the product exchanged
unfoldable pub sign_turn : SquaredEdges → Factors → Matrix3 → Float → Candidates → Traced Candidates
sign_turn squares factors eigenvectors sign found = do
  scaled ← vec_mul (column1 eigenvectors) sign
  null_vector ← vec_sub (column0 eigenvectors) scaled
  chart squares factors null_vector found

-- for sign in [ratio, -ratio] { .. }
unfoldable pub candidates : SquaredEdges → Factors → Matrix3 → Float → Traced Candidates
candidates squares factors eigenvectors ratio = do
  once ← sign_turn squares factors eigenvectors ratio no_candidates
  sign_turn squares factors eigenvectors (neg ratio) once
