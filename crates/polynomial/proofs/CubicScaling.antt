-- The cubic's part in the scaling rule: its coefficients are of degree 0, so both runs solve the
-- same cubic (`cubic-scales`). Assumes nothing.
use lib.IntN.{ℤ, pos}
use lib.Ieee.{Float}
use Rattle.ieee754.specs.Scaling.{Both, At}
use Rattle.ieee754_laws.proofs.Degrees.{same, at_zero}
use Rattle.polynomial.specs.PolishedRoot.{polished_cubic_root}
use Rattle.polynomial.specs.RootScaling.{AtRoots, two_at, double-at, lifted-at}
use Rattle.polynomial.specs.RootScaling.{one_at, refused-at}
use Rattle.polynomial.specs.Types.{Roots, Two, Double, Lifted, One, Refused}

module _ {k : ℤ} where
  -- an answer beside itself, at degree 0
  pub roots-same : (r : Roots) → AtRoots k (pos 0) r r
  roots-same (Two x y) = two_at (same x) (same y)
  roots-same (Double x) = double-at (same x)
  roots-same (Lifted x) = lifted-at (same x)
  roots-same (One x) = one_at (same x)
  roots-same (Refused n) = refused-at n

  pub cubic-scales : {b b' c c' d d' : Float}
      → At k (pos 0) b b'
      → At k (pos 0) c c'
      → At k (pos 0) d d'
      → Both (AtRoots k (pos 0)) (polished_cubic_root b c d) (polished_cubic_root b' c' d')
  cubic-scales B C D =
      rw (
        ← at_zero B,
        ← at_zero C,
        ← at_zero D,
      )
      (record { results = λ r r'. roots-same _ })
