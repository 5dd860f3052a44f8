-- Answers that are stated bit by bit (specs/Answers) are those of the definitions: they compute.
-- Assumes nothing.
use mathlib.Core.Path.{◌≡◌, refl}
use Rattle.ieee754.specs.Literal.{plus_zero, two}
use Rattle.frames.specs.Lent.{vector_at, pose_at}
use Rattle.refinement.specs.RefineDepths.{refine_depths}
use Rattle.lambdatwist.specs.Solve.{solve}
use Rattle.lambdatwist.proofs.Evaluated.{evaluated}
use Rattle.theorems.specs.Cases.{alike}
use Rattle.theorems.specs.Plates.{plate_in_metres, plate_bearings, far_plate, far_bearings}
use Rattle.theorems.specs.Answers.{plate_answer, far_answer, five_updates}

pub plate-answer : (solve plate_in_metres plate_bearings).value ≡ plate_answer
unfolding evaluated plate_in_metres plate_bearings plate_answer vector_at pose_at
plate-answer = refl

pub far-answer : (solve far_plate far_bearings).value ≡ far_answer
unfolding evaluated far_plate far_bearings far_answer vector_at pose_at
far-answer = refl

-- depths (2, 2, 2), squared edges 2, cosines 0
pub five-updates :
    (refine_depths (alike 0x4000_0000_0000_0000) (record { a01 = two; a02 = two; a12 = two })
    (record { m01 = plus_zero; m02 = plus_zero; m12 = plus_zero }) 5).value
    ≡ five_updates
unfolding evaluated five_updates
five-updates = refl
