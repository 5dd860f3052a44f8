-- The frame of specs/BehindCamera: its answer; the choice that gives each pose a score takes the
-- one that puts the checking target behind the camera; the choice takes the other, with a higher
-- score. They compute. Assumes nothing.
use mathlib.Core.Path.{◌≡◌, refl}
use lib.Dec.{T}
use lib.Ieee.{lt}
use Rattle.ieee754.specs.Literal.{double, plus_zero}
use Rattle.frames.specs.Lent.{vector_at, pose_at}
use Rattle.lambdatwist.specs.Solve.{solve}
use Rattle.lambdatwist.proofs.Evaluated.{evaluated}
use Rattle.choice.specs.Choose.{choose}
use Rattle.choice.specs.OneAnswer.{depth}
use Rattle.choice.proofs.Evaluated.{evaluated as choice-evaluated}
use Rattle.theorems.specs.BehindCamera.{behind_plate, behind_bearings, behind_target}
use Rattle.theorems.specs.BehindCamera.{behind_bearing, pose_behind, true_pose, behind_answer}
use Rattle.theorems.specs.BehindCamera.{choice_before}
use Rattle.theorems.specs.Types.{Ok}

pub behind-answer : (solve behind_plate behind_bearings).value ≡ behind_answer
unfolding evaluated behind_plate behind_bearings behind_answer pose_behind true_pose vector_at pose_at
behind-answer = refl

pub choice-before :
    choice_before ≡ Ok (record { place = 1; score = double 0x3ddc_b322_3cc3_0a37 })
unfolding choice-evaluated choice_before behind_target behind_bearing pose_behind true_pose vector_at
    pose_at
choice-before = refl

pub target-behind : T (lt (depth behind_target behind_bearing pose_behind) plus_zero)
unfolding choice-evaluated behind_target behind_bearing pose_behind vector_at pose_at
target-behind = tt

pub choice-now :
    (choose behind_answer.poses behind_answer.count behind_target behind_bearing).value
    ≡ Ok (record { place = 2; score = double 0x3df1_7d2a_6a1a_02fc })
unfolding choice-evaluated behind_answer behind_target behind_bearing pose_behind true_pose vector_at
    pose_at
choice-now = refl
