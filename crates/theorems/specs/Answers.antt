-- Whole answers of real plates, every bit of every pose, its count and its mark, as the Rust gives
-- them (reference/inputs/theorems.txt): of the plate in metres, and of the far plate, whose poses
-- take three updates each; and the refinement of document 01's case from (2, 2, 2) with five
-- updates allowed, in place of one. That they are given is proofs/Answers.
use Rattle.std.specs.Prelude.{ℕ, false, List, [], ◌∷◌, map}
use Rattle.ieee754.specs.Literal.{double}
use Rattle.frames.specs.Lent.{pose_at}
use Rattle.frames.specs.Poses.{zero_pose}
use Rattle.theorems.specs.Cases.{alike}
use Rattle.theorems.specs.Types.{Pose, Answer, Refined}

-- a pose by its bit patterns: the rotation by columns, then the translation
abbrev pub bit_pose : List ℕ → Pose
bit_pose words = pose_at (map double words) 0

unfoldable pub plate_answer : Answer
plate_answer = record {
  refusal = 0;
  count = 2;
  poses =
      bit_pose (0x3fd5_1951_9519_288d ∷ 0x3fe7_3573_5735_6c7e ∷ 0x3fe3_5735_7357_2f9c
      ∷ 0xbfee_2be2_be2b_d071 ∷ 0x3fd2_4924_9249_3476 ∷ 0x3fc5_f15f_15f1_75e4
      ∷ 0xbfa8_c18c_18c1_8442 ∷ 0xbfe4_0b40_b40b_2f3c ∷ 0x3fe8_e58e_58e5_76c6
      ∷ 0x3fdf_1670_b586_bb0f ∷ 0x3fd4_9929_0777_6a08 ∷ 0x3fca_6c90_b077_e5c3 ∷ [])
      ∷ bit_pose (0xbfee_bf2d_e497_a7ec ∷ 0x3fcc_195a_cd97_3fa6 ∷ 0x3fc5_a5aa_82ff_1340
      ∷ 0x3fd1_b59e_9143_688c ∷ 0x3fe9_5fd4_f795_8eb1 ∷ 0x3fe1_5edd_5d03_a853
      ∷ 0xbf8e_97c0_0d56_e590 ∷ 0x3fe2_3012_86bd_75a9 ∷ 0xbfea_530e_67ba_baac
      ∷ 0x3fd9_43f8_12fc_4346 ∷ 0x3fd1_e9e9_3b80_741b ∷ 0x3fc6_5d7d_c1da_ad41 ∷ [])
      ∷ zero_pose ∷ zero_pose ∷ [];
  updates = 0 ∷ 0 ∷ 0 ∷ 0 ∷ [];
  lifted = false ∷ false ∷ false ∷ false ∷ [];
}

unfoldable pub far_answer : Answer
far_answer = record {
  refusal = 0;
  count = 2;
  poses =
      bit_pose (0x3fe3_fac8_5a0d_8244 ∷ 0xbfe8_f8be_1dfc_1f07 ∷ 0x3fa1_c15b_67eb_9dd0
      ∷ 0xbfe8_fd09_d8df_1cc6 ∷ 0xbfe3_fd41_1565_e3d3 ∷ 0x3f65_b9ad_a559_28d3
      ∷ 0x3f94_1021_eff2_5f9e ∷ 0xbf9d_6ce5_b637_2a7e ∷ 0xbfef_fb0b_3d0f_e889
      ∷ 0xc0ea_a60f_1516_b107 ∷ 0x40ce_bd19_d553_4034 ∷ 0x40e3_0b6a_a8c3_04cc ∷ [])
      ∷ bit_pose (0x3fe1_3901_78ad_6148 ∷ 0xbfe7_aa2d_03cb_eb1d ∷ 0x3fd9_df9b_093f_fd70
      ∷ 0xbfea_d1ee_c070_44ca ∷ 0xbfe0_a4ea_c0b7_ac16 ∷ 0x3fc5_090b_9317_260a
      ∷ 0x3fb6_b7d9_4ba2_8545 ∷ 0xbfdb_588f_0bf1_2c40 ∷ 0xbfec_cac7_d58a_2acc
      ∷ 0xc0f0_cc5b_f130_82e5 ∷ 0x40d2_a84f_cf19_bb32 ∷ 0x40e7_b35a_f21c_70d8 ∷ [])
      ∷ zero_pose ∷ zero_pose ∷ [];
  updates = 3 ∷ 3 ∷ 0 ∷ 0 ∷ [];
  lifted = false ∷ false ∷ false ∷ false ∷ [];
}

unfoldable pub five_updates : Refined
five_updates = record { depths = alike 0x3ff0_0000_0000_0005; updates = 5 }
