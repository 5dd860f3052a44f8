-- A solve with a plate that is worked out from its points is the solve of demand 2 on them, every
-- refusal included: `plate-solves`. Assumes nothing.
use Rattle.std.specs.Prelude.{if◌then◌else◌}
use mathlib.Core.Path.{◌≡◌, refl, ap, sym, ◌∙◌}
use mathlib.Core.Bool.{Bool, true, false, not}
use lib.Ieee.{Float, le, binary64, mul}
use Rattle.ieee754.specs.Literal.{sixty_four, epsilon}
use Rattle.ieee754.specs.Traced.{Traced, pure, ◌>>=◌}
use Rattle.p3p_common.specs.Input.{input_finite}
use Rattle.p3p_common.specs.WorldBasisInverse.{world_basis_inverse}
use Rattle.orderings.specs.Edges.{edge_vectors, squared_edges}
use Rattle.orderings.specs.Basis.{basis_of}
use Rattle.orderings.specs.Cubic.{is_unusable}
use Rattle.orderings.specs.Measure.{measure_with, measure, measured_cubic}
use Rattle.lambdatwist.specs.Solve.{refused, ordered_or, best_or, solve_ordered, solve}
use Rattle.plates.specs.Plate.{with_basis, plate_of, Consistent}
use Rattle.plates.specs.Ordering.{ordered_rays, ordered_edges}
use Rattle.plates.specs.SolvePlate.{source_of, measure_plate, measure_ordering, solve_measured}
use Rattle.plates.specs.SolvePlate.{solve_best_ordering, solve_plate}
use Rattle.plates.specs.Types.{Matrix3, World, Bearings, SquaredEdges, P3pInput, Option, Some, None}
use Rattle.plates.specs.Types.{Source, Stored, Lacking, Measured, Answer}
use Rattle.plates.specs.Types.{Plate, Conditioned, Ordering, Permutation}
use Rattle.plates.proofs.SourceLaws.{Same, as-it-is, cubic-same}
use Rattle.plates.proofs.OrderingLaws.{edges_of, ordered_world, SameOrdering, best-same}

abbrev limit : Float
limit = mul binary64 sixty_four epsilon

-- two tests with one outcome, between two ways each to one answer
if-same : (b : Bool) {x x' y y' : Traced Answer}
    → Same x x'
    → Same y y'
    → Same (if b then x else y) (if b then x' else y')
if-same true x y = x
if-same false x y = y

-- ---- the retry: the best ordering's edges are those of its points
module _ (input : P3pInput) where
  abbrev edges : SquaredEdges
  edges = edges_of input.world

  abbrev by_stored : Ordering → Traced Answer
  by_stored o =
      if le o.condition limit then pure (refused 2)
      else (measure_ordering input edges o.order >>= solve_measured (pure (refused 2)) input)

  abbrev by_points : Float → World → Bearings → Traced Answer
  by_points condition world bearings =
      if le condition limit then pure (refused 2) else solve_ordered 0 input world bearings

  -- where the stored edges of an ordering are those of its points, it is measured alike
  measured-same : (order : Permutation)
      → edges_of (ordered_world input order) ≡ ordered_edges edges order
      → (measure_ordering input edges order).value
      ≡ (measure (ordered_world input order) (ordered_rays input.bearings order)).value
  unfolding measure_ordering measure edge_vectors
  measured-same order e = rw e

  usable_same : (order : Permutation)
      → edges_of (ordered_world input order) ≡ ordered_edges edges order
      → Same (measure_ordering input edges order >>= solve_measured (pure (refused 2)) input)
      (solve_ordered 0 input (ordered_world input order) (ordered_rays input.bearings order))
  unfolding solve_ordered ordered_or solve_measured
  usable_same order e = record {
    value = ap (λ (m : Measured). (solve_measured (pure (refused 2)) input m).value)
        (measured-same order e);
  }

  ordering-same : {c : Conditioned} {o : Ordering}
      → SameOrdering input c o
      → Same (by_stored o) (by_points c.condition c.world c.bearings)
  ordering-same {c} {o} same = record {
    value = (if-same (le o.condition limit) as-it-is
        (usable_same o.order same.squares)).value
        ∙ sym (λ i. (by_points (same.condition i) (same.world i) (same.bearings i)).value);
  }

  retry-same : Same (solve_best_ordering input edges) (best_or (solve_ordered 0) input)
  unfolding solve_best_ordering best_or
  retry-same = record { value = (ordering-same (best-same input)).value }

-- ---- the given ordering: the stored inverse is the one that is made of the edges
module _ (world : World) (bearings : Bearings) where
  abbrev input : P3pInput
  input = record { world = world; bearings = bearings }

  abbrev made : Option Matrix3
  made = (world_basis_inverse (edge_vectors world).value.d01 (edge_vectors world).value.d02).value

  given-same : (source : Source)
      → (basis_of source).value ≡ made
      → Same
      (measure_with world.p0 source (edges_of world) bearings
      >>= solve_measured (solve_best_ordering input (edges_of world)) input)
      (solve_ordered 1 input world bearings)
  unfolding solve_ordered ordered_or solve_measured measure measure_with measured_cubic edge_vectors
      squared_edges basis_of
  given-same source basis =
      let m = (measure world bearings).value in
      let cubic = (measured_cubic m).value in
      record {
        value = (if-same (is_unusable cubic).value (retry-same input)
            (cubic-same input m source m.source basis cubic)).value;
      }

  of-basis : (basis : Option Matrix3)
      → basis ≡ made
      → (solve_plate (with_basis world (edges_of world) basis) bearings).value
      ≡ (solve world bearings).value
  unfolding solve_plate solve measure_plate source_of with_basis basis_of
  of-basis (Some inverse) e =
      (if-same (not (input_finite input)) as-it-is (given-same (Stored inverse) e)).value
  of-basis None e =
      (if-same (not (input_finite input)) as-it-is (given-same Lacking e)).value

-- ---- a plate worked out from points, and one that could have been
pub points-solve : (world : World) (bearings : Bearings)
    → (solve_plate (plate_of world).value bearings).value ≡ (solve world bearings).value
unfolding plate_of
points-solve world bearings = of-basis world bearings (made world bearings) refl

pub plate-solves : (plate : Plate) (bearings : Bearings)
    → Consistent plate
    → (solve_plate plate bearings).value ≡ (solve plate.world bearings).value
plate-solves plate bearings consistent =
    ap (λ (p : Plate). (solve_plate p bearings).value) consistent
    ∙ points-solve plate.world bearings
