-- Making a plate of three points: document 02, §4, "a nonfinite given point is 1", and "a refused
-- making [gives] one of plus zeros without inverse".
use Rattle.std.specs.Prelude.{not, if◌then◌else◌}
use Rattle.frames.specs.Points.{world_finite}
use Rattle.plates.specs.Plate.{zero_plate}
use Rattle.plates.specs.Outcome.{done, refused}
use Rattle.plates.specs.Types.{World, Outcome}

unfoldable pub make : World → Outcome
make world = if not (world_finite world) then refused 1 zero_plate else done world
