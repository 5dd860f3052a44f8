-- The scaling rule's premise can be met, and is needed. In metres and in counts of 4,096 to the
-- metre both solves are regular, so the rule holds of the two answers: of a real plate, which has
-- at least two poses (`plate-regular`, `plate-alike`), of the plate with two targets exchanged,
-- which is refused with 3 (`exchanged-regular`, `exchanged-alike`), and of an equilateral plate
-- under equal angles, which is refused with 2 (`equilateral-regular`, `equilateral-alike`). The
-- plate at 2 ^ -600 of its size, whose coordinates meet all that the rule asks of them: its solve
-- is not regular, and answers otherwise (`premise-needed`). Assumes nothing.
use mathlib.Core.Path.{◌≡◌, refl}
use mathlib.Core.Bool.{Bool, not, ◌&&◌}
use lib.IntN.{ℤ, pos, negsuc}
use lib.Dec.{T, eqb, leb}
use lib.Ieee.{fits, of_bits, size}
use lib.Ieee.Fits.{and_l, and_r}
use Rattle.ieee754.specs.Traced.{Traced}
use Rattle.lambdatwist.specs.Solve.{solve}
use Rattle.lambdatwist.proofs.Evaluated.{evaluated}
use Rattle.theorems.specs.Plates.{plate_in_metres, plate_in_counts, plate_too_small, plate_bearings}
use Rattle.theorems.specs.Plates.{exchanged_bearings, equilateral_in_metres}
use Rattle.theorems.specs.Plates.{equilateral_in_counts, equal_angles}
use Rattle.theorems.specs.ScalingRule.{TimesWorld, DoubleWorld, Alike, ScalingRuleOf}
use Rattle.theorems.specs.ScalingRule.{ScalingRule}
use Rattle.theorems.specs.Types.{World, Bearings}
use Rattle.theorems.proofs.ScalingRule.{scaling-rule}
use Rattle.theorems.proofs.WorldTests.{double-world, times-world}

-- ---- the coordinates: doubles, exactly 2 ^ 12 times, and 2 ^ -600 times
counts-times : TimesWorld (pos 12) plate_in_metres plate_in_counts
unfolding plate_in_metres plate_in_counts of_bits size
counts-times = times-world (pos 12) plate_in_metres plate_in_counts tt

small_times : TimesWorld (negsuc 599) plate_in_metres plate_too_small
unfolding plate_in_metres plate_too_small of_bits size
small_times = times-world (negsuc 599) plate_in_metres plate_too_small tt

metres-double : DoubleWorld plate_in_metres
unfolding plate_in_metres fits of_bits size
metres-double = double-world plate_in_metres tt

counts-double : DoubleWorld plate_in_counts
unfolding plate_in_counts fits of_bits size
counts-double = double-world plate_in_counts tt

small-double : DoubleWorld plate_too_small
unfolding plate_too_small fits of_bits size
small-double = double-world plate_too_small tt

equilateral-times : TimesWorld (pos 12) equilateral_in_metres equilateral_in_counts
unfolding equilateral_in_metres equilateral_in_counts of_bits size
equilateral-times = times-world (pos 12) equilateral_in_metres equilateral_in_counts tt

equilateral-metres-double : DoubleWorld equilateral_in_metres
unfolding equilateral_in_metres fits of_bits size
equilateral-metres-double = double-world equilateral_in_metres tt

equilateral-counts-double : DoubleWorld equilateral_in_counts
unfolding equilateral_in_counts fits of_bits size
equilateral-counts-double = double-world equilateral_in_counts tt

-- ---- the solves
-- both are regular, and what is said of the first holds
abbrev pub RegularAnd : {A : Type 0} → (World → Bearings → Traced A) → World → World → Bearings
    → Bool
    → Type 0
RegularAnd solver world world' bearings said =
    T (((solver world bearings).regular && (solver world' bearings).regular) && said)

-- the rule of such a pair
pub rule-applies : {A : Type 0} (alike : ℤ → A → A → Type 0) (solver : World → Bearings → Traced A)
    → ScalingRuleOf alike solver
    → (world world' : World) (bearings : Bearings) (said : Bool)
    → DoubleWorld world
    → DoubleWorld world'
    → TimesWorld (pos 12) world world'
    → RegularAnd solver world world' bearings said
    → alike (pos 12) (solver world bearings).value (solver world' bearings).value
unfolding ScalingRuleOf
rule-applies alike solver rule world world' bearings said d d' times regular =
    let r = (solver world bearings).regular in
    let r' = (solver world' bearings).regular in
    let both = and_l (r && r') said regular in
    rule (pos 12) world world' bearings bearings d d' times refl (and_l r r' both)
    (and_r r r' both)

pub plate-regular :
    RegularAnd solve plate_in_metres plate_in_counts plate_bearings
    (leb 2 (solve plate_in_metres plate_bearings).value.count)
unfolding evaluated plate_in_metres plate_in_counts plate_bearings
plate-regular = tt

pub plate-alike :
    Alike (pos 12)
    (solve plate_in_metres plate_bearings).value
    (solve plate_in_counts plate_bearings).value
unfolding ScalingRule
plate-alike =
    rule-applies Alike solve scaling-rule plate_in_metres plate_in_counts plate_bearings
    (leb 2 (solve plate_in_metres plate_bearings).value.count)
    metres-double counts-double counts-times plate-regular

pub exchanged-regular :
    RegularAnd solve plate_in_metres plate_in_counts exchanged_bearings
    (eqb (solve plate_in_metres exchanged_bearings).value.refusal 3)
unfolding evaluated plate_in_metres plate_in_counts plate_bearings exchanged_bearings
exchanged-regular = tt

pub exchanged-alike :
    Alike (pos 12)
    (solve plate_in_metres exchanged_bearings).value
    (solve plate_in_counts exchanged_bearings).value
unfolding ScalingRule
exchanged-alike =
    rule-applies Alike solve scaling-rule plate_in_metres plate_in_counts exchanged_bearings
    (eqb (solve plate_in_metres exchanged_bearings).value.refusal 3)
    metres-double counts-double counts-times exchanged-regular

pub equilateral-regular :
    RegularAnd solve equilateral_in_metres equilateral_in_counts equal_angles
    (eqb (solve equilateral_in_metres equal_angles).value.refusal 2)
unfolding evaluated equilateral_in_metres equilateral_in_counts equal_angles
equilateral-regular = tt

pub equilateral-alike :
    Alike (pos 12)
    (solve equilateral_in_metres equal_angles).value
    (solve equilateral_in_counts equal_angles).value
unfolding ScalingRule
equilateral-alike =
    rule-applies Alike solve scaling-rule equilateral_in_metres equilateral_in_counts equal_angles
    (eqb (solve equilateral_in_metres equal_angles).value.refusal 2)
    equilateral-metres-double equilateral-counts-double equilateral-times equilateral-regular

too_small : ((solve plate_in_metres plate_bearings).value.refusal ≡ 0)
    × ((solve plate_too_small plate_bearings).value.refusal ≡ 2)
    × T (not (solve plate_too_small plate_bearings).regular)
unfolding evaluated plate_in_metres plate_too_small plate_bearings
too_small = (refl, refl, tt)

pub premise-needed : TimesWorld (negsuc 599) plate_in_metres plate_too_small
    × DoubleWorld plate_too_small
    × ((solve plate_in_metres plate_bearings).value.refusal ≡ 0)
    × ((solve plate_too_small plate_bearings).value.refusal ≡ 2)
    × T (not (solve plate_too_small plate_bearings).regular)
premise-needed = (small_times, small-double, too_small.0, too_small.1, too_small.2)
