-- Demand 1 of the mission, for the solve with a plate, whatever the plate holds (document 02, §4):
-- one to four poses or number 1, 2 or 3; a refusal holds no pose, plus zero in every slot and no
-- mark. That it holds of every plate and the answer of `solve_plate` is `one-answer-plate` in the
-- proofs.
use Rattle.std.specs.Prelude.{Bool, ◌&&◌, ◌||◌}
use Rattle.std.specs.Float.{binary64}
use Rattle.std.specs.Float.Ieee.{mul, le}
use Rattle.ieee754.specs.Literal.{sixty_four, epsilon}
use Rattle.frames.specs.declared.bearings.Bearings.{Bearings}
use Rattle.p3p_common.specs.declared.input.P3pInput.{P3pInput}
use Rattle.p3p_common.specs.Input.{input_finite}
use Rattle.orderings.specs.declared.measured.Measured.{Measured}
use Rattle.orderings.specs.Cubic.{is_unusable}
use Rattle.orderings.specs.Measure.{measured_cubic}
use Rattle.lambdatwist.specs.declared.solve.Answer.{Answer}
use Rattle.plates.specs.declared.plate.Plate.{Plate}
use Rattle.plates.specs.Ordering.{best_ordering}
use Rattle.plates.specs.SolvePlate.{measure_plate, measure_ordering}
use Rattle.theorems.specs.OneAnswer.{NamedAnswer}

-- ---- question 2: is there a usable ordering, by the stored edges?
unfoldable pub unusable : Measured → Bool
unusable measured = (is_unusable (measured_cubic measured).value).value

abbrev pub given : Plate → Bearings → P3pInput
given plate bearings = record { world = plate.world; bearings = bearings }

-- there is none: the given one is unusable, and of the best conditioned of the five others the
-- condition is at most 64 * 2 ^ -52 or it is unusable too
unfoldable pub no_ordering : Plate → Bearings → Bool
no_ordering plate bearings =
    let edges = plate.edges in
    let best = (best_ordering edges bearings).value in
    unusable (measure_plate plate bearings).value
    && (le best.condition (mul binary64 sixty_four epsilon)
    || unusable
    (measure_ordering (given plate bearings) edges best.order).value)

-- question 1 is of the points and the bearings, and not of the stored numbers
abbrev pub OneAnswerPlate : Plate → Bearings → Answer → Type 0
OneAnswerPlate plate bearings answer =
    NamedAnswer (input_finite (given plate bearings)) (no_ordering plate bearings) answer
