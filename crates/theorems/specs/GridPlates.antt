-- Frames of the solve about the first target. The worked plate of docs/USING.md where a grid puts
-- it, 691 kilometres east and 5,334 north of zero, in metres and in counts; the differences are the
-- plate at its own zero, so the answer has the poses that the Rust gives there
-- (samples/listing.txt), and the first target. And a plate whose coordinates are doubles and of
-- whose differences one overflows, with the same plate at 2 ^ -1023 of its size. What is proved of
-- them is proofs/AboutExamples.
use Rattle.std.specs.Prelude.{false, [], ◌∷◌}
use Rattle.ieee754.specs.Literal.{double}
use Rattle.linalg.specs.Vectors.{vector}
use Rattle.frames.specs.Points.{points, rays}
use Rattle.frames.specs.Poses.{zero_pose}
use Rattle.theorems.specs.Answers.{bit_pose}
use Rattle.theorems.specs.Types.{Vector3, World, Bearings, AnswerAbout}

-- (691000.25, 5334000.5, 512.125), half a metre east of it, and three eighths north
unfoldable pub grid_in_metres : World
grid_in_metres =
    points
    (vector (double 0x4125_1670_8000_0000)
    (double 0x4154_58fc_2000_0000)
    (double 0x4080_0100_0000_0000))
    (vector (double 0x4125_1671_8000_0000)
    (double 0x4154_58fc_2000_0000)
    (double 0x4080_0100_0000_0000))
    (vector (double 0x4125_1670_8000_0000)
    (double 0x4154_58fc_3800_0000)
    (double 0x4080_0100_0000_0000))

unfoldable pub grid_in_counts : World
grid_in_counts =
    points
    (vector (double 0x41e5_1670_8000_0000)
    (double 0x4214_58fc_2000_0000)
    (double 0x4140_0100_0000_0000))
    (vector (double 0x41e5_1671_8000_0000)
    (double 0x4214_58fc_2000_0000)
    (double 0x4140_0100_0000_0000))
    (vector (double 0x41e5_1670_8000_0000)
    (double 0x4214_58fc_3800_0000)
    (double 0x4140_0100_0000_0000))

unfoldable pub grid_bearings : Bearings
grid_bearings =
    rays
    (vector (double 0xbfbf_b127_32fe_4f61)
    (double 0xbfaf_b127_32fe_4f61)
    (double 0x3fef_b127_32fe_4f61))
    (vector (double 0x3fb0_a2c4_9edf_561a)
    (double 0xbfab_b9f2_5e1e_e4d5)
    (double 0x3fef_e2a3_85d6_ba5b))
    (vector (double 0xbfbf_82ec_882c_0f9a)
    (double 0x3fbf_82ec_882c_0f9a)
    (double 0x3fef_82ec_882c_0f9a))

-- (691000.75, 5334000.875, 512.25), and the bearing to it
unfoldable pub grid_target : Vector3
grid_target =
    vector (double 0x4125_1671_8000_0000)
    (double 0x4154_58fc_3800_0000)
    (double 0x4080_0200_0000_0000)

unfoldable pub grid_target_bearing : Vector3
grid_target_bearing =
    vector (double 0x3f9f_cffb_2888_2930)
    (double 0x3fba_82a6_a1c6_ccfc)
    (double 0x3fef_cffb_2888_292e)

unfoldable pub grid_answer : AnswerAbout
grid_answer = record {
  answer = record {
    refusal = 0;
    count = 2;
    poses =
        bit_pose (0x3fe6_817f_1cfe_ae8e ∷ 0x3fb2_106d_a6b2_f9bc ∷ 0xbfe6_a2d0_86e8_7f64
        ∷ 0xbf86_9fac_d404_4f55 ∷ 0x3fef_df72_26cf_fa41 ∷ 0x3fb6_9fac_d404_4f55
        ∷ 0x3fe6_bedf_19a6_6601 ∷ 0xbfab_d270_1ae0_8259 ∷ 0x3fe6_70fc_91d3_61d5
        ∷ 0xbfcf_84f3_737f_e904 ∷ 0xbfbf_84f3_737f_e904 ∷ 0x3fff_84f3_737f_e904 ∷ [])
        ∷ bit_pose (0x3fe9_9999_9999_9989 ∷ 0xbcb0_0000_0000_0000 ∷ 0x3fe3_3333_3333_3348
        ∷ 0xbcc5_5555_5555_5555 ∷ 0x3fef_ffff_ffff_ffed ∷ 0x3cf5_5555_5555_5555
        ∷ 0xbfe3_3333_3333_333c ∷ 0xbcf2_aaaa_aaaa_aaa1 ∷ 0x3fe9_9999_9999_997a
        ∷ 0xbfcf_ffff_ffff_ffe8 ∷ 0xbfbf_ffff_ffff_ffe8 ∷ 0x3fff_ffff_ffff_ffe8 ∷ [])
        ∷ zero_pose ∷ zero_pose ∷ [];
    updates = 0 ∷ 0 ∷ 0 ∷ 0 ∷ [];
    lifted = false ∷ false ∷ false ∷ false ∷ [];
  };
  origin = grid_in_metres.p0;
}

-- ---- (-1, 0, 0), (1, 0, 0), (-1, 1.5, 0), seen as the grid plate is; and 2 ^ 1023 times that: the
--      second point less the first is 2 ^ 1024
unfoldable pub wide_plate : World
wide_plate =
    points
    (vector (double 0xbff0_0000_0000_0000)
    (double 0)
    (double 0))
    (vector (double 0x3ff0_0000_0000_0000)
    (double 0)
    (double 0))
    (vector (double 0xbff0_0000_0000_0000)
    (double 0x3ff8_0000_0000_0000)
    (double 0))

unfoldable pub overflow_plate : World
overflow_plate =
    points
    (vector (double 0xffe0_0000_0000_0000)
    (double 0)
    (double 0))
    (vector (double 0x7fe0_0000_0000_0000)
    (double 0)
    (double 0))
    (vector (double 0xffe0_0000_0000_0000)
    (double 0x7fe8_0000_0000_0000)
    (double 0))
