-- The eigenvalues are at degree 2, lifted in both runs or in neither: the quadratic of which they
-- are roots has its coefficients at 2 and 4. Assumes nothing.
use Rattle.std.proofs.Common.{◌||◌, ℤ, pos, ap₂}
use lib.Ieee.{Float}
use Rattle.ieee754.specs.Scaling.{Both, At, Scales, AtOption, some-at, none-at}
use Rattle.ieee754_laws.proofs.Degrees.{null, !◌, ⊝◌, ◌⊗◌, ◌⊕◌, ◌⊖◌, pure, ◌>>=◌, choose, abs-at}
use Rattle.ieee754_laws.proofs.Degrees.{lt_same, eq-same, with_some}
use Rattle.linalg.specs.VectorScaling.{AtMatrix}
use Rattle.linalg.proofs.MatrixDegrees.{trace-scales}
use Rattle.polynomial.specs.RootScaling.{AtPair, pair-at}
use Rattle.polynomial.proofs.RootScaling.{pair_of-at}
use Rattle.polynomial.proofs.QuadraticScaling.{quadratic-scales}
use Rattle.eigen.specs.EigenPair.{pair_coefficient, nonzero_pair, by_magnitude, eigenvalue_pair}
use Rattle.eigen.specs.Types.{Matrix3, RootPair}

module _ {k : ℤ} where
  nonzero_pair-at : {p p' : RootPair}
      → AtPair k (pos 2) p p'
      → AtOption (AtPair k (pos 2)) (nonzero_pair p) (nonzero_pair p')
  unfolding nonzero_pair
  nonzero_pair-at (pair-at lifted x y) =
      choose (AtOption (AtPair k (pos 2))) (ap₂ ◌||◌ (eq-same x null) (eq-same y null)) none-at
      (some-at (pair-at lifted x y))

  by_magnitude-at : {p p' : RootPair}
      → AtPair k (pos 2) p p'
      → AtOption (AtPair k (pos 2)) (by_magnitude p) (by_magnitude p')
  unfolding by_magnitude
  by_magnitude-at (pair-at lifted x y) =
      choose (AtOption (AtPair k (pos 2))) (lt_same (abs-at x) (abs-at y))
      (nonzero_pair-at (pair-at lifted y x))
      (nonzero_pair-at (pair-at lifted x y))

  module _ {m m' : Matrix3} {s s' : Float} (M : AtMatrix k (pos 2) m m')
      (S : At k (pos 4) s s') where
    pair_coefficient-scales : Scales k (pos 4) (pair_coefficient m s) (pair_coefficient m' s')
    unfolding pair_coefficient
    pair_coefficient-scales =
        ⊝ ! S ⊖ ! M.m02 ⊗ ! M.m02 ⊖ ! M.m12 ⊗ ! M.m12
        ⊕ ! M.m00 ⊗ (! M.m11 ⊕ ! M.m22) ⊕ ! M.m11 ⊗ ! M.m22

    pub eigenvalue_pair-scales :
        Both (AtOption (AtPair k (pos 2))) (eigenvalue_pair m s) (eigenvalue_pair m' s')
    unfolding eigenvalue_pair
    eigenvalue_pair-scales =
        ⊝ trace-scales M >>= λ _ _ trace_coefficient.
        pair_coefficient-scales >>= λ _ _ pair_term.
        quadratic-scales trace_coefficient pair_term >>= λ _ _ roots.
        with_some (pair_of-at roots) (pure none-at) (λ _ _ pair. pure (by_magnitude-at pair))
