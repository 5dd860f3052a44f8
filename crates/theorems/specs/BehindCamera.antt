-- A frame whose checking target one pose puts behind the camera, and that pose won the choice while
-- each pose had a score (docs/changes/02-target-behind.md). A plate in counts of 4,096 to the metre
-- with a checking target beside it, 1.5 metres before the camera; the bearing to the target is off
-- by some hundred-thousandth, as a camera's is. The answer is the Rust's
-- (reference/inputs/theorems.txt): the second pose is the one that the frame was made with, the
-- first puts the target 0.55 metres behind the camera. What the choices among the two take is
-- proofs/BehindCamera.
use Rattle.std.specs.Prelude.{ℕ, false, [], ◌∷◌, Float}
use Rattle.ieee754.specs.Literal.{double}
use Rattle.linalg.specs.Vectors.{vector}
use Rattle.frames.specs.Points.{points, rays}
use Rattle.frames.specs.Poses.{zero_pose}
use Rattle.choice.specs.Answer.{no_score}
use Rattle.choice.specs.Choose.{better}
use Rattle.choice.specs.OneAnswer.{squared_tangent}
use Rattle.theorems.specs.Answers.{bit_pose}
use Rattle.theorems.specs.Types.{Vector3, World, Bearings, Pose, Answer}
use Rattle.theorems.specs.Types.{Best, Option, Some, Result}

-- (640, 1456, 28), (860, -1383, -18), (-670, -1162, 14)
unfoldable pub behind_plate : World
behind_plate =
    points
    (vector (double 0x4084_0000_0000_0000)
    (double 0x4096_c000_0000_0000)
    (double 0x403c_0000_0000_0000))
    (vector (double 0x408a_e000_0000_0000)
    (double 0xc095_9c00_0000_0000)
    (double 0xc032_0000_0000_0000))
    (vector (double 0xc084_f000_0000_0000)
    (double 0xc092_2800_0000_0000)
    (double 0x402c_0000_0000_0000))

unfoldable pub behind_bearings : Bearings
behind_bearings =
    rays
    (vector (double 0xbfdd_a3cf_6696_7ea8)
    (double 0x3fd8_c1cd_8ff3_e966)
    (double 0x3fe9_8479_3f2f_6c0c))
    (vector (double 0x3fc4_9de7_a615_6a7e)
    (double 0xbf81_a29c_97ef_3221)
    (double 0x3fef_94bb_0f31_2eb9))
    (vector (double 0x3fe0_7847_ae19_35e0)
    (double 0xbf95_04cf_551a_7f01)
    (double 0x3feb_6da6_77b6_f6ee))

-- (2825, -2917, 1080)
unfoldable pub behind_target : Vector3
behind_target =
    vector (double 0x40a6_1200_0000_0000)
    (double 0xc0a6_ca00_0000_0000)
    (double 0x4090_e000_0000_0000)

unfoldable pub behind_bearing : Vector3
behind_bearing =
    vector (double 0xbf95_0ee5_6c4e_c345)
    (double 0xbfce_4226_8bab_2f7c)
    (double 0x3fef_1608_b500_3bcc)

unfoldable pub pose_behind : Pose
pose_behind =
    bit_pose (0xbfe6_6de2_7e33_e556 ∷ 0x3fba_d0d3_fd25_e0f9 ∷ 0xbfe6_938e_a802_7b8c
    ∷ 0xbfe3_76ad_81c7_053e ∷ 0x3fdb_720c_c6b2_68b7 ∷ 0x3fe5_5fc9_3720_93b3
    ∷ 0x3fd7_d74a_f9d4_8c3c ∷ 0x3fec_b697_1f2a_9331 ∷ 0xbfce_5196_62cf_3bc9
    ∷ 0xc062_cee9_237b_6a98 ∷ 0x4080_166f_7e6d_a858 ∷ 0x409f_9ff1_9ee1_9350 ∷ [])

unfoldable pub true_pose : Pose
true_pose =
    bit_pose (0xbfe7_955f_2615_7057 ∷ 0x3fa8_0e42_c15c_a1be ∷ 0x3fe5_93aa_078d_8c7d
    ∷ 0xbfe4_12a1_03f9_e684 ∷ 0x3fd4_bce2_95d5_aa9c ∷ 0xbfe6_a97d_8c28_b1f1
    ∷ 0xbfd0_1ccd_865f_224c ∷ 0xbfee_3c74_b571_8f2d ∷ 0xbfca_cb65_560b_4a37
    ∷ 0x4078_ba9a_10c9_5bfc ∷ 0x4076_4d40_4228_6b6f ∷ 0x40a2_220e_5f32_061e ∷ [])

unfoldable pub behind_answer : Answer
behind_answer = record {
  refusal = 0;
  count = 2;
  poses = pose_behind ∷ true_pose ∷ zero_pose ∷ zero_pose ∷ [];
  updates = 0 ∷ 0 ∷ 0 ∷ 0 ∷ [];
  lifted = false ∷ false ∷ false ∷ false ∷ [];
}

-- the choice among the two while each had a score, wherever it put the target
unfoldable pub choice_before : Result Best ℕ
choice_before =
    let score : Pose → Option Float
    = λ pose. Some (squared_tangent behind_target behind_bearing pose) in
    better (better no_score 1 (score pose_behind)) 2 (score true_pose)
