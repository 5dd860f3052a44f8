-- The eigensystem: its eigenvectors are equal in the two runs, its eigenvalues at degree 2 and
-- lifted in both or in neither, or neither run has one. Assumes nothing.
use Rattle.std.proofs.Common.{Bool, not, ℤ, pos, ap}
use lib.Ieee.{Float}
use Rattle.ieee754.specs.Scaling.{Both, At, AtOption, some-at, none-at}
use Rattle.ieee754_laws.proofs.Degrees.{null, !◌, ◌⊗◌, pure, ◌>>=◌, ◌>>≡◌, if◌then◌else◌}
use Rattle.ieee754_laws.proofs.Degrees.{with_some, with_same}
use Rattle.linalg.specs.Matrices.{from_columns}
use Rattle.linalg.specs.VectorScaling.{AtVector, AtMatrix}
use Rattle.linalg.proofs.MatrixDegrees.{mat_finite-same}
use Rattle.polynomial.specs.RootScaling.{AtPair, pair-at}
use Rattle.eigen.specs.KnownZero.{system_of_pair, eig_with_known_zero}
use Rattle.eigen.specs.Types.{Vector3, Matrix3, RootPair, Eigensystem}
use Rattle.eigen.proofs.EigenvectorScaling.{zero_vector-same, precompute-scales, eigenvector_of-same}
use Rattle.eigen.proofs.EigenvalueScaling.{eigenvalue_pair-scales}

pub data AtSystem (k : ℤ) : Eigensystem → Eigensystem → Type 0 where
  found_at : (m : Matrix3) {v v' : Vector3} (lifted : Bool)
      → AtVector k (pos 2) v v'
      → AtSystem k
      (record { vectors = m; values = v; lifted = lifted })
      (record { vectors = m; values = v'; lifted = lifted })

module _ {k : ℤ} where
  module _ {m m' : Matrix3} (M : AtMatrix k (pos 2) m m') where
    system_of_pair-scales : (zero : Vector3) {s s' : Float} {p p' : RootPair}
        → At k (pos 4) s s'
        → AtPair k (pos 2) p p'
        → Both (AtOption (AtSystem k)) (system_of_pair m zero s p) (system_of_pair m' zero s' p')
    unfolding system_of_pair
    system_of_pair-scales zero square (pair-at lifted first_value second_value) =
        precompute-scales M square >>= λ _ _ p.
        eigenvector_of-same M p first_value >>≡ λ first.
        with_same first (pure none-at) (λ column0.
        eigenvector_of-same M p second_value >>≡ λ second.
        with_same second (pure none-at) (λ column1.
        pure (some-at (found_at (from_columns column0 column1 zero) lifted
        (record { x = first_value; y = second_value; z = null })))))

    pub eig_with_known_zero-scales :
        Both (AtOption (AtSystem k)) (eig_with_known_zero m) (eig_with_known_zero m')
    unfolding eig_with_known_zero
    eig_with_known_zero-scales =
        if ap not (mat_finite-same M) then pure none-at
        else (
        zero_vector-same M >>≡ λ known.
        with_same known (pure none-at) (λ zero.
        ! M.m01 ⊗ ! M.m01 >>= λ _ _ square.
        eigenvalue_pair-scales M square >>= λ _ _ pair.
        with_some pair (pure none-at) (λ _ _ values. system_of_pair-scales zero square values)))
