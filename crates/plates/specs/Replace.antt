-- Replacing one target: document 02, §4, "a nonfinite given point is 1, a target number above 2 is
-- 11", "asked in that order", and "a refused operation gives back the old plate". The plate's other
-- points are not looked at.
use Rattle.std.specs.Prelude.{ℕ, not, ltb, if◌then◌else◌}
use Rattle.linalg.specs.Vectors.{all_finite}
use Rattle.plates.specs.Target.{with_target}
use Rattle.plates.specs.Outcome.{done, refused}
use Rattle.plates.specs.Types.{Vector3, Plate, Outcome}

unfoldable pub replace : Plate → ℕ → Vector3 → Outcome
replace plate number point =
    if not (all_finite point) then refused 1 plate
    else if ltb 2 number then refused 11 plate
    else done (with_target plate.world number point)
