-- The coefficients of the cubic whose root gives the singular matrix (`solve_ordered` and
-- `leading_cubic_condition` of lambdatwist.rs), and the test by which an ordering of the points is
-- unusable: `solve_ordered`, up to the retry.
use Rattle.std.specs.Prelude.{Bool, true, not, Float, if◌then◌else◌}
use Rattle.std.specs.Float.Ieee.{le}
use Rattle.std.specs.Float.Ieee.Scale.{finite}
use Rattle.ieee754.specs.Literal.{two, sixty_four, epsilon}
use Rattle.ieee754.specs.Magnitude.{abs}
use Rattle.ieee754.specs.Maximum.{max}
use Rattle.ieee754.specs.Traced.{Traced, pure, ◌>>=◌, ◌⊗◌, ◌⊕◌, ◌⊖◌, !◌}
use Rattle.orderings.specs.Types.{SquaredEdges, SquaredSines, Coefficients}

unfoldable pub cubic_coefficients : SquaredEdges → SquaredSines → Traced Coefficients
cubic_coefficients squares sines =
    let record { a01 = a01; a02 = a02; a12 = a12 } = squares in
    let record { triple = triple; s20 = s20; s12 = s12; s01 = s01 } = sines in
    do
      -- a02 * (a12 * s20_squared - a02 * s12_squared)
      cubic3 ← ! a02 ⊗ (! a12 ⊗ ! s20 ⊖ ! a02 ⊗ ! s12)
      -- 2.0 * triple * a12 * a02 + a02 * (2.0 * a01 + a02) * s12_squared
      --     + a12 * (a12 - a01) * s20_squared
      cubic2 ← ! two ⊗ ! triple ⊗ ! a12 ⊗ ! a02 ⊕ ! a02 ⊗ (! two ⊗ ! a01 ⊕ ! a02) ⊗ ! s12
          ⊕ ! a12 ⊗ (! a12 ⊖ ! a01) ⊗ ! s20
      -- a12 * (a02 - a12) * s01_squared - a01 * a01 * s12_squared
      --     - 2.0 * a01 * (triple * a12 + a02 * s12_squared)
      cubic1 ← ! a12 ⊗ (! a02 ⊖ ! a12) ⊗ ! s01 ⊖ ! a01 ⊗ ! a01 ⊗ ! s12
          ⊖ ! two ⊗ ! a01 ⊗ (! triple ⊗ ! a12 ⊕ ! a02 ⊗ ! s12)
      -- a01 * (a01 * s12_squared - a12 * s01_squared)
      cubic0 ← ! a01 ⊗ (! a01 ⊗ ! s12 ⊖ ! a12 ⊗ ! s01)
      pure (record { cubic3 = cubic3; cubic2 = cubic2; cubic1 = cubic1; cubic0 = cubic0 })

-- cubic3.abs().max(cubic2.abs()).max(cubic1.abs()).max(cubic0.abs())
unfoldable pub coefficient_scale : Coefficients → Float
coefficient_scale c =
    max (max (max (abs c.cubic3) (abs c.cubic2)) (abs c.cubic1)) (abs c.cubic0)

-- !coefficient_scale.is_finite() || cubic3.abs() <= coefficient_scale * f64::EPSILON * 64.0: the
-- product is reached only where the scale is finite
unfoldable pub is_unusable : Coefficients → Traced Bool
is_unusable c =
    if not (finite (coefficient_scale c)) then pure true
    else do
      limit ← ! coefficient_scale c ⊗ ! epsilon ⊗ ! sixty_four
      pure (le (abs c.cubic3) limit)
