-- The frames that theorems name. A real plate, seen: three targets in metres and the bearings to
-- them; the same plate in counts of 4,096 to the metre; the plate at 2 ^ -600 of its size, where
-- squared edges vanish; and its bearings with two targets exchanged. An equilateral plate under
-- equal angles, in both units, and a plate seen from far. The two units are the mission's.
use Rattle.std.specs.Prelude.{Float}
use Rattle.ieee754.specs.Literal.{double, plus_zero, one}
use Rattle.linalg.specs.Vectors.{vector}
use Rattle.theorems.specs.Types.{World, Bearings}
use Rattle.frames.specs.Points.{points, rays}

unfoldable pub plate_in_metres : World
plate_in_metres =
    points
    (vector (double 0x3fc3_2617_c1bd_a512)
    (double 0x3fcd_6388_6594_af4f)
    (double 0xbf72_6e97_8d4f_df3b))
    (vector (double 0xbfc6_a7ef_9db2_2d0e)
    (double 0xbfb4_6dc5_d638_8659)
    (double 0x3f75_b573_eab3_67a1))
    (vector (double 0xbfa2_1ff2_e48e_8a72)
    (double 0x3f93_dd97_f62b_6ae8)
    (double 0xbf1a_36e2_eb1c_432d))

unfoldable pub plate_in_counts : World
plate_in_counts =
    points
    (vector (double 0x4083_2617_c1bd_a512)
    (double 0x408d_6388_6594_af4f)
    (double 0xc032_6e97_8d4f_df3b))
    (vector (double 0xc086_a7ef_9db2_2d0e)
    (double 0xc074_6dc5_d638_8659)
    (double 0x4035_b573_eab3_67a1))
    (vector (double 0xc062_1ff2_e48e_8a72)
    (double 0x4053_dd97_f62b_6ae8)
    (double 0xbfda_36e2_eb1c_432d))

unfoldable pub plate_too_small : World
plate_too_small =
    points
    (vector (double 0x1a43_2617_c1bd_a512)
    (double 0x1a4d_6388_6594_af4f)
    (double 0x99f2_6e97_8d4f_df3b))
    (vector (double 0x9a46_a7ef_9db2_2d0e)
    (double 0x9a34_6dc5_d638_8659)
    (double 0x19f5_b573_eab3_67a1))
    (vector (double 0x9a22_1ff2_e48e_8a72)
    (double 0x1a13_dd97_f62b_6ae8)
    (double 0x999a_36e2_eb1c_432d))

unfoldable pub plate_bearings : Bearings
plate_bearings =
    rays
    (vector (double 0x3fde_0c06_af98_346e)
    (double 0x3fe7_8122_7c37_8885)
    (double 0x3fdf_5bbc_7d1b_be65))
    (vector (double 0x3fed_ee70_d70a_68d1)
    (double 0x3fd3_f11d_d830_4640)
    (double 0x3fc5_6cfa_5b6f_541c))
    (vector (double 0x3fe9_3a1f_6847_08ab)
    (double 0x3fe0_b3f3_1cc9_2cba)
    (double 0x3fd4_d7d4_6da9_b0d4))

-- the plate's bearings, the second and third target taken for one another: refused with 3
unfoldable pub exchanged_bearings : Bearings
exchanged_bearings =
    rays plate_bearings.f0 plate_bearings.f2 plate_bearings.f1

-- ---- an equilateral plate under equal angles, in metres and in counts: refused with 2
abbrev pub quarter : Float
quarter = double 0x3fd0_0000_0000_0000

-- a metre in counts: 4,096
abbrev pub metre : Float
metre = double 0x40b0_0000_0000_0000

unfoldable pub equilateral_in_metres : World
equilateral_in_metres =
    points
    (vector one plus_zero plus_zero)
    (vector plus_zero one plus_zero)
    (vector plus_zero plus_zero one)

unfoldable pub equilateral_in_counts : World
equilateral_in_counts =
    points
    (vector metre plus_zero plus_zero)
    (vector plus_zero metre plus_zero)
    (vector plus_zero plus_zero metre)

unfoldable pub equal_angles : Bearings
equal_angles =
    rays
    (vector one quarter quarter)
    (vector quarter one quarter)
    (vector quarter quarter one)

-- ---- a plate of some 1.4 metres, in counts, seen from 17: each of its two poses takes three
--      updates
unfoldable pub far_plate : World
far_plate =
    points
    (vector (double 0xc08f_3000_0000_0000)
    (double 0x40a8_1a00_0000_0000)
    (double 0x404d_8000_0000_0000))
    (vector (double 0x40ad_0600_0000_0000)
    (double 0x4053_8000_0000_0000)
    (double 0xc054_c000_0000_0000))
    (vector (double 0xc075_9000_0000_0000)
    (double 0x40a4_ae00_0000_0000)
    (double 0x4032_0000_0000_0000))

unfoldable pub far_bearings : Bearings
far_bearings =
    rays
    (vector (double 0xbfe9_f371_aacd_d520)
    (double 0x3fca_4967_eff2_0f78)
    (double 0x3fe1_881e_604d_368d))
    (vector (double 0xbfe9_2116_2778_9e45)
    (double 0x3fc8_93e6_4a6e_62bf)
    (double 0x3fe2_d5d3_9aac_3e70))
    (vector (double 0xbfe9_d6c7_f46f_289d)
    (double 0x3fca_175d_c5b8_f067)
    (double 0x3fe1_b6e2_10ec_8061))
