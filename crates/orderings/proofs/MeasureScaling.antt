-- What is measured of two runs' frames: the first point and its edges at degree 1, squared edges at
-- 2, and what comes of the bearings equal; so the cubic's coefficients are at degree 4. An inverse
-- basis has its rows at -1, -1 and -2, wherever it comes from. Assumes nothing.
use mathlib.Core.Path.{◌≡◌, refl}
use lib.IntN.{ℤ, pos, negsuc}
use Rattle.ieee754.specs.Scaling.{Both, AtOption, some-at, none-at}
use Rattle.ieee754_laws.proofs.Degrees.{pure, ◌>>=◌, ◌>>≡◌, alike}
use Rattle.linalg.specs.VectorScaling.{AtVector, AtRows}
use Rattle.frames.specs.FrameScaling.{AtWorld, AtSquaredEdges}
use Rattle.orderings.specs.Angles.{cosines, squared_sines, bearing_factors}
use Rattle.p3p_common.proofs.BasisScaling.{world_basis_inverse-scales}
use Rattle.orderings.specs.Basis.{basis_of}
use Rattle.orderings.specs.Measure.{measure_with, measure, measured_cubic}
use Rattle.orderings.specs.Types.{Vector3, Matrix3, World, Bearings, SquaredEdges, Measured}
use Rattle.orderings.specs.Types.{Source, Made, Stored, Lacking}
use Rattle.orderings.proofs.EdgeScaling.{edge_vectors-scales, squared_edges-scales}
use Rattle.orderings.proofs.CubicScaling.{AtCoefficients, cubic_coefficients-scales}

pub data AtSource (k : ℤ) : Source → Source → Type 0 where
  made_at : {d d' e e' : Vector3}
      → AtVector k (pos 1) d d'
      → AtVector k (pos 1) e e'
      → AtSource k (Made d e) (Made d' e')
  stored_at : {m m' : Matrix3}
      → AtRows k (negsuc 0) (negsuc 0) (negsuc 1) m m'
      → AtSource k (Stored m) (Stored m')
  lacking-at : AtSource k Lacking Lacking

pub basis_of-scales : {k : ℤ} {s s' : Source}
    → AtSource k s s'
    → Both (AtOption (AtRows k (negsuc 0) (negsuc 0) (negsuc 1))) (basis_of s) (basis_of s')
unfolding basis_of
basis_of-scales (made_at d e) = world_basis_inverse-scales d e
basis_of-scales (stored_at m) = pure (some-at m)
basis_of-scales lacking-at = pure none-at

pub record AtMeasured (k : ℤ) (m m' : Measured) : Type 0 where
  pub p0 : AtVector k (pos 1) m.p0 m'.p0
  pub source : AtSource k m.source m'.source
  pub squares : AtSquaredEdges k m.squares m'.squares
  pub bearings : m.bearings ≡ m'.bearings
  pub cosines : m.cosines ≡ m'.cosines
  pub factors : m.factors ≡ m'.factors

module _ {k : ℤ} where
  measure_with-scales : {p p' : Vector3} {s s' : Source} {e e' : SquaredEdges} (bearings : Bearings)
      → AtVector k (pos 1) p p'
      → AtSource k s s'
      → AtSquaredEdges k e e'
      → Both (AtMeasured k) (measure_with p s e bearings) (measure_with p' s' e' bearings)
  unfolding measure_with
  measure_with-scales bearings p0 source squares =
      alike {m = cosines bearings} >>≡ λ bearing_cosines.
      alike {m = bearing_factors bearing_cosines} >>≡ λ factors.
      pure (record {
        p0 = p0;
        source = source;
        squares = squares;
        bearings = refl {a = bearings};
        cosines = refl {a = bearing_cosines};
        factors = refl {a = factors};
      })

  pub measure-scales : {w w' : World} (bearings : Bearings)
      → AtWorld k w w'
      → Both (AtMeasured k) (measure w bearings) (measure w' bearings)
  unfolding measure
  measure-scales bearings w =
      edge_vectors-scales w >>= λ _ _ edges.
      squared_edges-scales edges >>= λ _ _ squares.
      measure_with-scales bearings w.p0 (made_at edges.d01 edges.d02) squares

  pub measured_cubic-scales : {m m' : Measured}
      → AtMeasured k m m'
      → Both (AtCoefficients k) (measured_cubic m) (measured_cubic m')
  unfolding measured_cubic
  measured_cubic-scales {m} M =
      rw (← M.cosines) (
      alike {m = squared_sines m.cosines} >>≡ λ sines.
      cubic_coefficients-scales sines M.squares)
