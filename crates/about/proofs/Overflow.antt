-- The subtractions count among the operations of the scaling rule's premise (document 02, §1):
-- where a difference overflows it is not met. `subtractions-needed` of `theorems` has a whole solve
-- of which that is so; this is the difference alone. Assumes nothing.
use mathlib.Core.Bool.{not}
use lib.Dec.{T}
use Rattle.ieee754.specs.Literal.{double, plus_zero}
use Rattle.linalg.specs.Vectors.{vector}
use Rattle.frames.specs.Points.{points}
use Rattle.about.specs.Differences.{differences}
use Rattle.about.specs.Types.{World}
use Rattle.about.proofs.Evaluated.{evaluated}

-- (-2 ^ 1023, 0, 0), (2 ^ 1023, 0, 0) and (0, 0, 0): the second less the first is 2 ^ 1024, beyond
-- all doubles
abbrev apart : World
apart =
    points
    (vector (double 0xffe0_0000_0000_0000) plus_zero plus_zero)
    (vector (double 0x7fe0_0000_0000_0000) plus_zero plus_zero)
    (vector plus_zero plus_zero plus_zero)

pub overflow-counts : T (not (differences apart).regular)
unfolding evaluated
overflow-counts = tt
