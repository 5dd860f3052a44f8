-- The solve with a plate: whether the input is finite is asked of its points and the bearings, the
-- stored edges serve every ordering, and the stored inverse, or its lack, only the given one, while
-- the others make theirs from the points. It is `solve` of lambdatwist's specs/Solve otherwise,
-- with its one retry written out.
use Rattle.std.specs.Prelude.{Bool, not, if◌then◌else◌}
use Rattle.std.specs.Float.Ieee.{le}
use Rattle.ieee754.specs.Literal.{sixty_four, epsilon}
use Rattle.ieee754.specs.Traced.{Traced, pure, ◌>>=◌, ◌⊗◌, !◌}
use Rattle.linalg.specs.Vectors.{vec_sub}
use Rattle.p3p_common.specs.Input.{input_finite}
use Rattle.orderings.specs.Cubic.{is_unusable}
use Rattle.orderings.specs.Measure.{measure_with, measured_cubic}
use Rattle.lambdatwist.specs.Solve.{refused, solve_cubic}
use Rattle.plates.specs.Target.{number_of_target, target}
use Rattle.plates.specs.Ordering.{ordered_rays, ordered_edges, best_ordering}
use Rattle.plates.specs.Types.{Matrix3, Bearings, SquaredEdges, P3pInput, Source, Made}
use Rattle.plates.specs.Types.{Stored, Lacking, Measured, Answer, Plate, Permutation}

-- ---- what is measured, by the stored edges
unfoldable pub source_of : Bool → Matrix3 → Source
source_of invertible inverse = if invertible then Stored inverse else Lacking

unfoldable pub measure_plate : Plate → Bearings → Traced Measured
measure_plate plate bearings =
    measure_with plate.world.p0 (source_of plate.invertible plate.inverse) plate.edges
    bearings

-- another ordering: its inverse is made from the points
unfoldable pub measure_ordering : P3pInput → SquaredEdges → Permutation → Traced Measured
measure_ordering input edges order =
    let p0 = target input.world (number_of_target order.0) in
    let p1 = target input.world (number_of_target order.1) in
    let p2 = target input.world (number_of_target order.2) in
    do
      d01 ← vec_sub p0 p1
      d02 ← vec_sub p0 p2
      measure_with p0 (Made d01 d02) (ordered_edges edges order) (ordered_rays input.bearings order)

-- ---- the solve of an ordering, with what is done where it is unusable
unfoldable pub solve_measured : Traced Answer → P3pInput → Measured → Traced Answer
solve_measured retry input measured = do
  cubic ← measured_cubic measured
  unusable ← is_unusable cubic
  if unusable then retry else solve_cubic input measured cubic

-- the retry, which has none left
unfoldable pub solve_best_ordering : P3pInput → SquaredEdges → Traced Answer
solve_best_ordering input edges = do
  best ← best_ordering edges input.bearings
  limit ← ! sixty_four ⊗ ! epsilon
  if le best.condition limit then pure (refused 2)
      else (do
        measured ← measure_ordering input edges best.order
        solve_measured (pure (refused 2)) input measured)

unfoldable pub solve_plate : Plate → Bearings → Traced Answer
solve_plate plate bearings =
    let input : P3pInput = record { world = plate.world; bearings = bearings } in
    if not (input_finite input) then pure (refused 1)
    else (do
      measured ← measure_plate plate bearings
      solve_measured (solve_best_ordering input plate.edges) input measured)
