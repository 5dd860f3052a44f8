-- `leading_cubic_condition` of lambdatwist.rs: how large the leading coefficient of the cubic is
-- beside the largest. The Rust computes s01, s12, s20 and then triple; `squared_sines` has the
-- order of `solve_ordered`, triple first.
use Rattle.std.specs.Prelude.{not, ◌||◌, Float, if◌then◌else◌}
use Rattle.std.specs.Float.Ieee.{eq}
use Rattle.std.specs.Float.Ieee.Scale.{finite}
use Rattle.ieee754.specs.Literal.{plus_zero}
use Rattle.ieee754.specs.Magnitude.{abs}
use Rattle.ieee754.specs.Maximum.{max}
use Rattle.ieee754.specs.Traced.{Traced, pure, ◌>>=◌, ◌⊘◌, !◌}
use Rattle.orderings.specs.Edges.{edge_vectors, squared_edges}
use Rattle.orderings.specs.Angles.{cosines, squared_sines}
use Rattle.orderings.specs.Cubic.{cubic_coefficients}
use Rattle.orderings.specs.Types.{World, Bearings, SquaredEdges, Coefficients}

-- coefficients.iter().copied().map(f64::abs).fold(0.0, f64::max): it starts from plus zero, so
-- where all are NaN the scale is zero
unfoldable pub folded_scale : Coefficients → Float
folded_scale c =
    max (max (max (max plus_zero (abs c.cubic3)) (abs c.cubic2)) (abs c.cubic1))
    (abs c.cubic0)

unfoldable pub leading_share : Coefficients → Traced Float
leading_share c =
    -- if scale == 0.0 || !scale.is_finite() { 0.0 } else { coefficients[0].abs() / scale }
    if eq (folded_scale c) plus_zero || not (finite (folded_scale c)) then pure plus_zero
    else ! abs c.cubic3 ⊘ ! folded_scale c

-- after the squared edges
unfoldable pub condition_of_edges : SquaredEdges → Bearings → Traced Float
condition_of_edges squares bearings = do
  bearing_cosines ← cosines bearings
  sines ← squared_sines bearing_cosines
  cubic ← cubic_coefficients squares sines
  leading_share cubic

unfoldable pub leading_cubic_condition : World → Bearings → Traced Float
leading_cubic_condition world bearings = do
  edges ← edge_vectors world
  squares ← squared_edges edges
  condition_of_edges squares bearings
