-- A plate, the operations on it and the solve with it over lent memory: what is read (document 02,
-- §4).
use Rattle.std.specs.Prelude.{ℕ, List, ℤ, Float}
use Rattle.frames.specs.Lent.{vector_at, world_at, bearings_at}
use Rattle.plates.specs.Make.{make}
use Rattle.plates.specs.Replace.{replace}
use Rattle.plates.specs.Exchange.{exchange}
use Rattle.plates.specs.TimesPower.{times_power}
use Rattle.plates.specs.SolvePlate.{solve_plate}
use Rattle.lent_answers.specs.Plated.{plate_in}
use Rattle.p3p.specs.Types.{Outcome, Answer}

unfoldable pub made : List Float → Outcome
made points = make (world_at points 0)

unfoldable pub replaced : List Float → ℕ → ℕ → List Float → Outcome
replaced plate has_inverse target point =
    replace (plate_in plate has_inverse) target (vector_at point 0)

unfoldable pub exchanged : List Float → ℕ → ℕ → ℕ → Outcome
exchanged plate has_inverse first second = exchange (plate_in plate has_inverse) first second

unfoldable pub scaled : List Float → ℕ → ℤ → Outcome
scaled plate has_inverse k = times_power (plate_in plate has_inverse) k

unfoldable pub solved_plate : List Float → ℕ → List Float → Answer
solved_plate plate has_inverse bearings =
    (solve_plate (plate_in plate has_inverse) (bearings_at bearings 0)).value
