-- What `solve_ordered` and `leading_cubic_condition` (lambdatwist.rs) take from the bearings: the
-- cosines of the angles between them, what the cubic's coefficients need of those, and the factors
-- b01, b02 and b12 of the matrix and the charts.
use Rattle.std.specs.Prelude.{Float}
use Rattle.std.specs.Float.Ieee.{neg}
use Rattle.ieee754.specs.Literal.{one, two}
use Rattle.ieee754.specs.Clamp.{clamp}
use Rattle.ieee754.specs.Traced.{Traced, pure, ◌>>=◌, ◌⊗◌, ◌⊖◌, !◌, ⊝◌}
use Rattle.linalg.specs.Vectors.{dot}
use Rattle.orderings.specs.Types.{Vector3, Bearings, Cosines, SquaredSines, Factors}

-- f.dot(&g).clamp(-1.0, 1.0)
unfoldable pub cosine : Vector3 → Vector3 → Traced Float
cosine f g = do
  product ← dot f g
  pure (clamp product (neg one) one)

-- let c01 = f0.dot(&f1).clamp(-1.0, 1.0);
-- let c12 = f1.dot(&f2).clamp(-1.0, 1.0);
-- let c20 = f2.dot(&f0).clamp(-1.0, 1.0);
-- In `Cosines` they stand as the refinement takes them, [c01, c20, c12]: m02 is c20.
unfoldable pub cosines : Bearings → Traced Cosines
cosines bearings =
    let record { f0 = f0; f1 = f1; f2 = f2 } = bearings in
    do
      c01 ← cosine f0 f1
      c12 ← cosine f1 f2
      c20 ← cosine f2 f0
      pure (record { m01 = c01; m02 = c20; m12 = c12 })

-- let triple = c01 * c12 * c20 - 1.0;
-- let s20_squared = 1.0 - c20 * c20;
-- let s12_squared = 1.0 - c12 * c12;
-- let s01_squared = 1.0 - c01 * c01;
unfoldable pub squared_sines : Cosines → Traced SquaredSines
squared_sines bearing_cosines =
    let record { m01 = c01; m02 = c20; m12 = c12 } = bearing_cosines in
    do
      triple ← ! c01 ⊗ ! c12 ⊗ ! c20 ⊖ ! one
      s20 ← ! one ⊖ ! c20 ⊗ ! c20
      s12 ← ! one ⊖ ! c12 ⊗ ! c12
      s01 ← ! one ⊖ ! c01 ⊗ ! c01
      pure (record { triple = triple; s20 = s20; s12 = s12; s01 = s01 })

-- let b01 = -2.0 * c01;
-- let b02 = -2.0 * c20;
-- let b12 = -2.0 * c12;
unfoldable pub bearing_factors : Cosines → Traced Factors
bearing_factors bearing_cosines =
    let record { m01 = c01; m02 = c20; m12 = c12 } = bearing_cosines in
    do
      b01 ← ⊝ ! two ⊗ ! c01
      b02 ← ⊝ ! two ⊗ ! c20
      b12 ← ⊝ ! two ⊗ ! c12
      pure (record { b01 = b01; b02 = b02; b12 = b12 })
