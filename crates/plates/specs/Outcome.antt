-- What an operation on a plate gives: number 0 and the new plate, of which all is worked out from
-- the points, or a refusal's number and the old one.
use Rattle.std.specs.Prelude.{ℕ}
use Rattle.plates.specs.Plate.{plate_of}
use Rattle.plates.specs.Types.{World, Plate, Outcome}

unfoldable pub done : World → Outcome
done world = record { refusal = 0; plate = (plate_of world).value }

abbrev pub refused : ℕ → Plate → Outcome
refused number plate = record { refusal = number; plate = plate }
