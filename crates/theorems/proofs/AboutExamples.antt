-- The solve about the first target of the frames of specs/GridPlates. The grid plate has the answer
-- and the choice that are stated bit by bit (`grid-answer`, `grid-choice`), and in metres and in
-- counts both solves are regular, so the rule holds of the two answers (`grid-regular`,
-- `grid-alike`). The plate of which a difference overflows meets all that the rule asks of
-- coordinates, and is refused, while the plate at 2 ^ -1023 of its size is regular and is not: the
-- subtractions must count among the premise's operations (`subtractions-needed`). Assumes nothing.
use mathlib.Core.Path.{◌≡◌, refl}
use mathlib.Core.Bool.{not}
use lib.IntN.{pos}
use lib.Dec.{T, eqb}
use lib.Ieee.{fits, of_bits, size}
use Rattle.ieee754.specs.Literal.{double}
use Rattle.frames.specs.Lent.{vector_at, pose_at}
use Rattle.about.specs.Differences.{differences}
use Rattle.about.specs.SolveAbout.{solve_about}
use Rattle.about.specs.ChooseAbout.{choose_about}
use Rattle.about.proofs.Evaluated.{evaluated}
use Rattle.theorems.specs.GridPlates.{grid_in_metres, grid_in_counts, grid_bearings, grid_target}
use Rattle.theorems.specs.GridPlates.{grid_target_bearing, grid_answer, wide_plate}
use Rattle.theorems.specs.GridPlates.{overflow_plate}
use Rattle.theorems.specs.ScalingRule.{TimesWorld, DoubleWorld}
use Rattle.theorems.specs.ScalingRuleAbout.{AlikeAbout, ScalingRuleAbout}
use Rattle.theorems.specs.Types.{Ok}
use Rattle.theorems.proofs.ScalingExamples.{RegularAnd, rule-applies}
use Rattle.theorems.proofs.ScalingRuleAbout.{scaling-rule-about}
use Rattle.theorems.proofs.WorldTests.{double-world, times-world}

-- ---- the grid plate
pub grid-answer : (solve_about grid_in_metres grid_bearings).value ≡ grid_answer
unfolding evaluated grid_in_metres grid_bearings grid_answer vector_at pose_at
grid-answer = refl

pub grid-choice :
    (choose_about grid_answer.answer.poses 2 grid_answer.origin grid_target grid_target_bearing
    ).value
    ≡ Ok (record { place = 2; score = double 0x3988_9553_0baa_e54d })
unfolding evaluated grid_in_metres grid_answer grid_target grid_target_bearing vector_at pose_at
grid-choice = refl

-- ---- the grid plate in metres and in counts
grid-times : TimesWorld (pos 12) grid_in_metres grid_in_counts
unfolding grid_in_metres grid_in_counts of_bits size
grid-times = times-world (pos 12) grid_in_metres grid_in_counts tt

metres-double : DoubleWorld grid_in_metres
unfolding grid_in_metres fits of_bits size
metres-double = double-world grid_in_metres tt

counts-double : DoubleWorld grid_in_counts
unfolding grid_in_counts fits of_bits size
counts-double = double-world grid_in_counts tt

pub grid-regular :
    RegularAnd solve_about grid_in_metres grid_in_counts grid_bearings
    (eqb (solve_about grid_in_metres grid_bearings).value.answer.count 2)
unfolding evaluated grid_in_metres grid_in_counts grid_bearings
grid-regular = tt

pub grid-alike :
    AlikeAbout (pos 12)
    (solve_about grid_in_metres grid_bearings).value
    (solve_about grid_in_counts grid_bearings).value
unfolding ScalingRuleAbout
grid-alike =
    rule-applies AlikeAbout solve_about scaling-rule-about grid_in_metres grid_in_counts grid_bearings
    (eqb (solve_about grid_in_metres grid_bearings).value.answer.count 2)
    metres-double counts-double grid-times grid-regular

-- ---- a difference that overflows
wide-times : TimesWorld (pos 1023) wide_plate overflow_plate
unfolding wide_plate overflow_plate of_bits size
wide-times = times-world (pos 1023) wide_plate overflow_plate tt

wide-double : DoubleWorld wide_plate
unfolding wide_plate fits of_bits size
wide-double = double-world wide_plate tt

overflow-double : DoubleWorld overflow_plate
unfolding overflow_plate fits of_bits size
overflow-double = double-world overflow_plate tt

-- where the differences are taken one fails, and nothing but the refusal follows
abbrev Overflows : Type 0
Overflows = T (solve_about wide_plate grid_bearings).regular
    × ((solve_about wide_plate grid_bearings).value.answer.refusal ≡ 0)
    × T (not (differences overflow_plate).regular)
    × ((solve_about overflow_plate grid_bearings).value.answer.refusal ≡ 1)

overflows : Overflows
unfolding evaluated wide_plate overflow_plate grid_bearings
overflows = (tt, refl, tt, refl)

pub subtractions-needed : TimesWorld (pos 1023) wide_plate overflow_plate
    × DoubleWorld wide_plate
    × DoubleWorld overflow_plate
    × Overflows
subtractions-needed = (wide-times, wide-double, overflow-double, overflows)
