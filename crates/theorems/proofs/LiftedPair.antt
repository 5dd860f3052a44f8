-- The answer of the frame of specs/LiftedPair: three poses, of which the last two are one, and
-- marked. It computes. Assumes nothing.
use mathlib.Core.Path.{◌≡◌, refl}
use Rattle.frames.specs.Lent.{vector_at, pose_at}
use Rattle.lambdatwist.specs.Solve.{solve}
use Rattle.lambdatwist.proofs.Evaluated.{evaluated}
use Rattle.theorems.specs.LiftedPair.{circle_plate, cylinder_bearings, other_pose, lifted_pose}
use Rattle.theorems.specs.LiftedPair.{cylinder_answer}

pub cylinder-answer : (solve circle_plate cylinder_bearings).value ≡ cylinder_answer
unfolding evaluated circle_plate cylinder_bearings other_pose lifted_pose cylinder_answer vector_at pose_at
cylinder-answer = refl
