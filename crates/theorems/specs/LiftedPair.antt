-- A frame whose camera stands on the danger cylinder, over the circle through the plate's targets:
-- two of its poses have come together as one, which the answer holds twice, both times marked
-- (document 02, §8). The targets lie on the circle of radius 5 about the origin, the camera 8
-- before it at (-3, -4). The answer is the Rust's with its marks (reference/inputs/theorems.txt).
-- That it is given is proofs/LiftedPair.
use Rattle.std.specs.Prelude.{true, false, [], ◌∷◌}
use Rattle.ieee754.specs.Literal.{double}
use Rattle.linalg.specs.Vectors.{vector}
use Rattle.frames.specs.Points.{points, rays}
use Rattle.frames.specs.Poses.{zero_pose}
use Rattle.theorems.specs.Answers.{bit_pose}
use Rattle.theorems.specs.Types.{World, Bearings, Pose, Answer}

-- (-5, 0, 0), (-4, -3, 0), (-4, 3, 0)
unfoldable pub circle_plate : World
circle_plate =
    points
    (vector (double 0xc014_0000_0000_0000)
    (double 0x0000_0000_0000_0000)
    (double 0x0000_0000_0000_0000))
    (vector (double 0xc010_0000_0000_0000)
    (double 0xc008_0000_0000_0000)
    (double 0x0000_0000_0000_0000))
    (vector (double 0xc010_0000_0000_0000)
    (double 0x4008_0000_0000_0000)
    (double 0x0000_0000_0000_0000))

-- along (-2, 4, 8), (-1, 1, 8), (-1, 7, 8)
unfoldable pub cylinder_bearings : Bearings
cylinder_bearings =
    rays
    (vector (double 0xbfcb_ee90_56fb_9c39)
    (double 0x3fdb_ee90_56fb_9c39)
    (double 0x3feb_ee90_56fb_9c39))
    (vector (double 0xbfbf_82ec_882c_0f9a)
    (double 0x3fbf_82ec_882c_0f9a)
    (double 0x3fef_82ec_882c_0f9a))
    (vector (double 0xbfb7_fa02_3f10_68d1)
    (double 0x3fe4_fac1_f72e_5bb7)
    (double 0x3fe7_fa02_3f10_68d1))

unfoldable pub other_pose : Pose
other_pose =
    bit_pose (0x3fef_2c3a_658a_016c ∷ 0x3fa9_0f6e_bf63_3960 ∷ 0xbfcc_3aac_7217_04b0
    ∷ 0xbf92_1d81_b292_0ed0 ∷ 0x3fef_ac3f_d4ba_d2fc ∷ 0x3fc2_1d81_b292_0ed0
    ∷ 0x3fcc_d3c7_5a39_cd7a ∷ 0xbfc1_25c7_0195_4664 ∷ 0x3fee_e1bc_5f7a_7a85
    ∷ 0x4007_d216_7def_dd24 ∷ 0x4010_1fcc_d476_84e1 ∷ 0x4019_e13a_1025_b08c ∷ [])

-- the one that the frame was made with
unfoldable pub lifted_pose : Pose
lifted_pose =
    bit_pose (0x3ff0_0000_0000_0015 ∷ 0xbd0b_8000_0000_0000 ∷ 0x3d24_0000_0000_0000
    ∷ 0x3cee_0000_0000_0000 ∷ 0x3ff0_0000_0000_0001 ∷ 0xbd1d_ffff_ffff_ffff
    ∷ 0xbd23_ffff_ffff_ffce ∷ 0x3d1e_0000_0000_004d ∷ 0x3ff0_0000_0000_0016
    ∷ 0x4008_0000_0000_000b ∷ 0x400f_ffff_ffff_ffc8 ∷ 0x4020_0000_0000_008d ∷ [])

unfoldable pub cylinder_answer : Answer
cylinder_answer = record {
  refusal = 0;
  count = 3;
  poses = other_pose ∷ lifted_pose ∷ lifted_pose ∷ zero_pose ∷ [];
  updates = 0 ∷ 0 ∷ 0 ∷ 0 ∷ [];
  lifted = false ∷ true ∷ true ∷ false ∷ [];
}
