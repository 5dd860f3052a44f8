-- Exchanging two targets: document 02, §4, "a target number above 2 is 11". A target may be
-- exchanged with itself: its plate is worked out anew.
use Rattle.std.specs.Prelude.{ℕ, ◌||◌, ltb, if◌then◌else◌}
use Rattle.plates.specs.Target.{target, with_target}
use Rattle.plates.specs.Outcome.{done, refused}
use Rattle.plates.specs.Types.{World, Plate, Outcome}

-- each of two targets in the other's place
unfoldable pub exchanged : World → ℕ → ℕ → World
exchanged world first second =
    with_target (with_target world first (target world second)) second (target world first)

unfoldable pub exchange : Plate → ℕ → ℕ → Outcome
exchange plate first second =
    if ltb 2 first || ltb 2 second then refused 11 plate
    else done (exchanged plate.world first second)
