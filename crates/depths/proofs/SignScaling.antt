-- The depth candidates of either sign of the ratio are at degree 1, as many in both runs and with
-- the same marks. Assumes nothing.
use mathlib.Core.Bool.{Bool}
use lib.IntN.{ℤ}
use lib.Ieee.{Float, neg}
use Rattle.ieee754.specs.Scaling.{Both}
use Rattle.ieee754_laws.proofs.Degrees.{◌>>=◌, ◌>>≡◌, alike}
use Rattle.linalg.specs.Vectors.{vec_sub, vec_mul}
use Rattle.linalg.specs.Matrices.{column0, column1}
use Rattle.frames.specs.FrameScaling.{AtSquaredEdges}
use Rattle.depths.specs.Signs.{sign_turn, candidates}
use Rattle.depths.specs.Types.{Matrix3, SquaredEdges, Factors, Candidates}
use Rattle.depths.proofs.ChartScaling.{AtCandidates, no_candidates-at, chart-scales}

module _ {k : ℤ} where
  module _ {e e' : SquaredEdges} (factors : Factors) (E : AtSquaredEdges k e e') where
    sign_turn-scales : (eigenvectors : Matrix3) (sign : Float) {c c' : Candidates}
        → AtCandidates k c c'
        → Both (AtCandidates k)
        (sign_turn e factors eigenvectors sign c)
        (sign_turn e' factors eigenvectors sign c')
    unfolding sign_turn
    sign_turn-scales eigenvectors sign found =
        alike {m = vec_mul (column1 eigenvectors) sign} >>≡ λ scaled.
        alike {m = vec_sub (column0 eigenvectors) scaled} >>≡ λ null_vector.
        chart-scales factors E null_vector found

    pub candidates-scales : (eigenvectors : Matrix3) (ratio : Float) (lifted : Bool)
        → Both (AtCandidates k)
        (candidates e factors eigenvectors ratio lifted)
        (candidates e' factors eigenvectors ratio lifted)
    unfolding candidates
    candidates-scales eigenvectors ratio lifted =
        sign_turn-scales eigenvectors ratio (no_candidates-at lifted) >>= λ _ _ once.
        sign_turn-scales eigenvectors (neg ratio) once
