-- The scaling rule for a plate multiplied by 2 ^ k (document 02, §4; demand 3 of the mission):
-- where the multiplication is not refused and the rule's premise holds of the two solves of the
-- points, the two answers with the plates are alike. Its proof is `scaled-plate` in the proofs.
use Rattle.std.specs.Prelude.{◌≡◌, ℤ, T}
use Rattle.frames.specs.declared.bearings.Bearings.{Bearings}
use Rattle.lambdatwist.specs.Solve.{solve}
use Rattle.plates.specs.declared.plate.Plate.{Plate}
use Rattle.plates.specs.Plate.{Consistent}
use Rattle.plates.specs.TimesPower.{scaled_world, times_power}
use Rattle.plates.specs.SolvePlate.{solve_plate}
use Rattle.theorems.specs.ScalingRule.{DoubleWorld, Alike}

unfoldable pub ScaledPlate : Type 0
ScaledPlate = (plate : Plate) (k : ℤ) (bearings : Bearings)
    → DoubleWorld plate.world
    → Consistent plate
    → (times_power plate k).refusal ≡ 0
    → T (solve plate.world bearings).regular
    → T (solve (scaled_world k plate.world) bearings).regular
    → Alike k (solve_plate plate bearings).value
    (solve_plate (times_power plate k).plate bearings).value
