-- What `solve_ordered` (lambdatwist.rs) measures of the points and bearings in the order in which
-- they are solved, from `let d01` to `let b12`, and the cubic's coefficients of that. (The sines
-- stand with the coefficients, which alone need them.)
use Rattle.ieee754.specs.Traced.{Traced, pure, ◌>>=◌}
use Rattle.orderings.specs.Edges.{edge_vectors, squared_edges}
use Rattle.orderings.specs.Angles.{cosines, squared_sines, bearing_factors}
use Rattle.orderings.specs.Cubic.{cubic_coefficients}
use Rattle.orderings.specs.Types.{Vector3, World, Bearings, SquaredEdges, Source, Made}
use Rattle.orderings.specs.Types.{Coefficients, Measured}

-- from `let c01` on, by squared edges that are at hand
unfoldable pub measure_with : Vector3 → Source → SquaredEdges → Bearings → Traced Measured
measure_with p0 source squares bearings = do
  bearing_cosines ← cosines bearings
  factors ← bearing_factors bearing_cosines
  pure (record {
    p0 = p0;
    source = source;
    squares = squares;
    bearings = bearings;
    cosines = bearing_cosines;
    factors = factors;
  })

unfoldable pub measure : World → Bearings → Traced Measured
measure world bearings = do
  edges ← edge_vectors world
  squares ← squared_edges edges
  measure_with world.p0 (Made edges.d01 edges.d02) squares bearings

unfoldable pub measured_cubic : Measured → Traced Coefficients
measured_cubic measured = do
  sines ← squared_sines measured.cosines
  cubic_coefficients measured.squares sines
