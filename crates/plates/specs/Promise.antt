-- What document 02, §4, promises of every operation, with no hypothesis on the old plate: "after
-- each that is not refused, the stored numbers are, bit for bit, those worked out from the stored
-- points", and "a refused operation gives back the old plate, a refused making one of plus zeros
-- without inverse".
use Rattle.std.specs.Prelude.{ℕ, ◌<◌}
use Rattle.plates.specs.Plate.{Consistent}
use Rattle.plates.specs.Outcome.{refused}
use Rattle.plates.specs.Types.{Plate, Outcome}

pub data Keeps (old : Plate) : Outcome → Type 0 where
  worked-out : (plate : Plate)
      → Consistent plate
      → Keeps old (record { refusal = 0; plate = plate })
  given_back : (number : ℕ)
      → 0 < number
      → Keeps old (refused number old)
