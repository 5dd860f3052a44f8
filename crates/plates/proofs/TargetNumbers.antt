-- A target's number is one that the operations take. Assumes nothing.
use mathlib.Core.Path.{◌≡◌, refl}
use mathlib.Core.Bool.{false}
use lib.Dec.{ltb}
use Rattle.plates.specs.Target.{number_of_target}
use Rattle.plates.specs.Types.{Target, First, Second, Third}

pub named : (which : Target) → ltb 2 (number_of_target which) ≡ false
named First = refl
named Second = refl
named Third = refl
