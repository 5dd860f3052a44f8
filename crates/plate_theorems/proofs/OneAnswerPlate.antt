-- Demand 1 of the mission for the solve with any plate, as specs/OneAnswerPlate.antt states it.
-- Assumes nothing.
use mathlib.Core.Path.{refl}
use mathlib.Core.Bool.{Bool, not}
use lib.Dec.{T}
use mir.Facts.{T_not-not}
use lib.Ieee.{binary64, mul, le}
use Rattle.ieee754.specs.Literal.{sixty_four, epsilon}
use Rattle.ieee754.specs.Traced.{Traced, pure, ◌>>=◌}
use Rattle.ieee754.proofs.Tests.{either_way}
use Rattle.frames.specs.declared.bearings.Bearings.{Bearings}
use Rattle.p3p_common.specs.Input.{input_finite}
use Rattle.lambdatwist.specs.declared.solve.Answer.{Answer}
use Rattle.lambdatwist.specs.Solve.{refused}
use Rattle.plates.specs.declared.plate.Plate.{Plate}
use Rattle.plates.specs.Ordering.{best_ordering}
use Rattle.plates.specs.SolvePlate.{measure_plate, measure_ordering, solve_measured}
use Rattle.plates.specs.SolvePlate.{solve_best_ordering, solve_plate}
use Rattle.theorems.specs.OneAnswer.{refused-1}
use Rattle.theorems.proofs.OneAnswer.{refused-so, ordering-one, orderings-one}
use Rattle.plate_theorems.specs.OneAnswerPlate.{unusable, given, no_ordering, OneAnswerPlate}

module _ (plate : Plate) (bearings : Bearings) where
  abbrev One : Traced Answer → Type 0
  One m = OneAnswerPlate plate bearings m.value

  measured-one : T (input_finite (given plate bearings))
      → One (measure_plate plate bearings
      >>= solve_measured (solve_best_ordering (given plate bearings) plate.edges)
      (given plate bearings))
  unfolding solve_measured solve_best_ordering unusable no_ordering
  measured-one finite =
      let input = given plate bearings in
      let edges = plate.edges in
      let best = (best_ordering edges bearings).value in
      let low : Bool = le best.condition (mul binary64 sixty_four epsilon) in
      let other = measure_ordering input edges best.order in
      orderings-one (input_finite input) (unusable (measure_plate plate bearings).value) low
      (unusable other.value) (solve_best_ordering input edges)
      (other >>= solve_measured (pure (refused 2)) input) input _ _ finite refl
      (λ n again usable.
      ordering-one (input_finite input) (unusable other.value) (no_ordering plate bearings)
      (pure (refused 2)) input _ _ finite again usable)

  pub one-answer-plate : OneAnswerPlate plate bearings (solve_plate plate bearings).value
  unfolding solve_plate
  one-answer-plate =
      let input = given plate bearings in
      either_way One (not (input_finite input))
      (λ not-Finite. refused-1 not-Finite (refused-so 1))
      (λ finite. measured-one (T_not-not (input_finite input) finite))
