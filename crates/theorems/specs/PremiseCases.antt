-- Frames at the ends of the scaling rule's premise: whether the solve of each meets it, its refusal
-- number and its count of poses. That they hold is `premise-cases` in the proofs; tests/premise
-- compares the same frames with the flags that a processor raises in the Rust's solve.
use Rattle.std.specs.Prelude.{ℕ, Bool, true, false, ◌&&◌, List, [], ◌∷◌, map, eqb}
use Rattle.std.specs.Bool.{beq}
use Rattle.ieee754.specs.Literal.{double}
use Rattle.frames.specs.Lent.{world_at, bearings_at}
use Rattle.lambdatwist.specs.Solve.{solve}

-- the bit patterns of a frame's eighteen numbers, whether its solve is regular, the refusal number
-- and the count
pub data PremiseCase : Type 0 where
  frame : List ℕ → Bool → ℕ → ℕ → PremiseCase

unfoldable pub premise_case_holds : PremiseCase → Bool
premise_case_holds (frame words regular refusal count) =
    let numbers = map double words in
    let solved = solve (world_at numbers 0) (bearings_at numbers 9) in
    beq solved.regular regular
    && (eqb solved.value.refusal refusal && eqb solved.value.count count)

unfoldable pub premise_cases : List PremiseCase
premise_cases =
    -- the plate times 2^-120
    frame (0x3843_2617_c1bd_a512 ∷ 0x384d_6388_6594_af4f ∷ 0xb7f2_6e97_8d4f_df3b
    ∷ 0xb846_a7ef_9db2_2d0e ∷ 0xb834_6dc5_d638_8659 ∷ 0x37f5_b573_eab3_67a1
    ∷ 0xb822_1ff2_e48e_8a72 ∷ 0x3813_dd97_f62b_6ae8 ∷ 0xb79a_36e2_eb1c_432d
    ∷ 0x3fde_0c06_af98_346e ∷ 0x3fe7_8122_7c37_8885 ∷ 0x3fdf_5bbc_7d1b_be65
    ∷ 0x3fed_ee70_d70a_68d1 ∷ 0x3fd3_f11d_d830_4640 ∷ 0x3fc5_6cfa_5b6f_541c
    ∷ 0x3fe9_3a1f_6847_08ab ∷ 0x3fe0_b3f3_1cc9_2cba ∷ 0x3fd4_d7d4_6da9_b0d4 ∷ [])
    true 0 2
    -- the plate times 2^-121: underflow
    ∷ frame (0x3833_2617_c1bd_a512 ∷ 0x383d_6388_6594_af4f ∷ 0xb7e2_6e97_8d4f_df3b
    ∷ 0xb836_a7ef_9db2_2d0e ∷ 0xb824_6dc5_d638_8659 ∷ 0x37e5_b573_eab3_67a1
    ∷ 0xb812_1ff2_e48e_8a72 ∷ 0x3803_dd97_f62b_6ae8 ∷ 0xb78a_36e2_eb1c_432d
    ∷ 0x3fde_0c06_af98_346e ∷ 0x3fe7_8122_7c37_8885 ∷ 0x3fdf_5bbc_7d1b_be65
    ∷ 0x3fed_ee70_d70a_68d1 ∷ 0x3fd3_f11d_d830_4640 ∷ 0x3fc5_6cfa_5b6f_541c
    ∷ 0x3fe9_3a1f_6847_08ab ∷ 0x3fe0_b3f3_1cc9_2cba ∷ 0x3fd4_d7d4_6da9_b0d4 ∷ [])
    false 0 2
    -- the plate times 2^130
    ∷ frame (0x47e3_2617_c1bd_a512 ∷ 0x47ed_6388_6594_af4f ∷ 0xc792_6e97_8d4f_df3b
    ∷ 0xc7e6_a7ef_9db2_2d0e ∷ 0xc7d4_6dc5_d638_8659 ∷ 0x4795_b573_eab3_67a1
    ∷ 0xc7c2_1ff2_e48e_8a72 ∷ 0x47b3_dd97_f62b_6ae8 ∷ 0xc73a_36e2_eb1c_432d
    ∷ 0x3fde_0c06_af98_346e ∷ 0x3fe7_8122_7c37_8885 ∷ 0x3fdf_5bbc_7d1b_be65
    ∷ 0x3fed_ee70_d70a_68d1 ∷ 0x3fd3_f11d_d830_4640 ∷ 0x3fc5_6cfa_5b6f_541c
    ∷ 0x3fe9_3a1f_6847_08ab ∷ 0x3fe0_b3f3_1cc9_2cba ∷ 0x3fd4_d7d4_6da9_b0d4 ∷ [])
    true 0 2
    -- the plate times 2^131: overflow
    ∷ frame (0x47f3_2617_c1bd_a512 ∷ 0x47fd_6388_6594_af4f ∷ 0xc7a2_6e97_8d4f_df3b
    ∷ 0xc7f6_a7ef_9db2_2d0e ∷ 0xc7e4_6dc5_d638_8659 ∷ 0x47a5_b573_eab3_67a1
    ∷ 0xc7d2_1ff2_e48e_8a72 ∷ 0x47c3_dd97_f62b_6ae8 ∷ 0xc74a_36e2_eb1c_432d
    ∷ 0x3fde_0c06_af98_346e ∷ 0x3fe7_8122_7c37_8885 ∷ 0x3fdf_5bbc_7d1b_be65
    ∷ 0x3fed_ee70_d70a_68d1 ∷ 0x3fd3_f11d_d830_4640 ∷ 0x3fc5_6cfa_5b6f_541c
    ∷ 0x3fe9_3a1f_6847_08ab ∷ 0x3fe0_b3f3_1cc9_2cba ∷ 0x3fd4_d7d4_6da9_b0d4 ∷ [])
    false 0 2
    -- whole numbers: zero by zero
    ∷ frame (0x3ff0_0000_0000_0000 ∷ 0xbff0_0000_0000_0000 ∷ 0
    ∷ 0x3ff0_0000_0000_0000 ∷ 0xbff0_0000_0000_0000 ∷ 0
    ∷ 0xbff0_0000_0000_0000 ∷ 0x3ff0_0000_0000_0000 ∷ 0x3ff0_0000_0000_0000
    ∷ 0 ∷ 0 ∷ 0
    ∷ 0x3ff0_0000_0000_0000 ∷ 0xbff0_0000_0000_0000 ∷ 0
    ∷ 0 ∷ 0 ∷ 0 ∷ [])
    false 3 0
    -- the row crosses vanish: zero by zero
    ∷ frame (0 ∷ 0xbff0_0000_0000_0000 ∷ 0x3ff0_0000_0000_0000
    ∷ 0x3ff0_0000_0000_0000 ∷ 0 ∷ 0
    ∷ 0x3ff0_0000_0000_0000 ∷ 0 ∷ 0
    ∷ 0x3ff0_0000_0000_0000 ∷ 0xbe64_0000_0000_0000 ∷ 0x3e60_0000_0000_0000
    ∷ 0x3ff0_0000_0000_0000 ∷ 0x3e38_0000_0000_0000 ∷ 0xbe60_0000_0000_0000
    ∷ 0x3ff0_0000_0000_0000 ∷ 0x3e8c_0000_0000_0000 ∷ 0xbe60_0000_0000_0000 ∷ [])
    false 3 0
    -- a number by zero
    ∷ frame (0xbfcb_50a0_1c89_9bc8 ∷ 0xbfe6_2e49_4e80_c238 ∷ 0xbfe4_ca9e_5f54_c68a
    ∷ 0x3fe7_a667_8d84_9308 ∷ 0xbfa6_2188_6dae_74e8 ∷ 0x3f9b_2727_7586_8737
    ∷ 0x3fe7_a667_8d84_93d0 ∷ 0xbfa6_2188_6dae_8080 ∷ 0x3f9b_2727_7586_a540
    ∷ 0xbfb5_7b05_f03b_f62a ∷ 0x3fba_e0bd_8a22_d44b ∷ 0x3fef_b5ac_4fc4_475c
    ∷ 0x3fbb_db89_d3eb_78cb ∷ 0xbfa1_fd19_35c4_60fb ∷ 0x3fef_ca43_ce57_8a71
    ∷ 0x3fbb_db89_d3eb_7930 ∷ 0xbfa1_fd19_35c4_6471 ∷ 0x3fef_ca43_ce57_8a6e ∷ [])
    false 3 0
    -- whole numbers: an exact subnormal
    ∷ frame (0 ∷ 0x3ff0_0000_0000_0000 ∷ 0xbff0_0000_0000_0000
    ∷ 0xbff0_0000_0000_0000 ∷ 0 ∷ 0x3ff0_0000_0000_0000
    ∷ 0xbff0_0000_0000_0000 ∷ 0xbff0_0000_0000_0000 ∷ 0x3ff0_0000_0000_0000
    ∷ 0 ∷ 0x3ff0_0000_0000_0000 ∷ 0
    ∷ 0x3ff0_0000_0000_0000 ∷ 0xbff0_0000_0000_0000 ∷ 0x3ff0_0000_0000_0000
    ∷ 0 ∷ 0 ∷ 0xbff0_0000_0000_0000 ∷ [])
    false 3 0
    -- a product of 2^-1022
    ∷ frame (0 ∷ 0 ∷ 0xc000_0000_0000_0000
    ∷ 0 ∷ 0x3ff0_0000_0000_0000 ∷ 0xc000_0000_0000_0000
    ∷ 0 ∷ 0x4000_0000_0000_0000 ∷ 0xbff0_0000_0000_0000
    ∷ 0x2000_0000_0000_0000 ∷ 0 ∷ 0x4000_0000_0000_0000
    ∷ 0x2000_0000_0000_0000 ∷ 0 ∷ 0xbff0_0000_0000_0000
    ∷ 0 ∷ 0x4000_0000_0000_0000 ∷ 0 ∷ [])
    true 3 0
    -- a product that rounds up to 2^-1022
    ∷ frame (0 ∷ 0 ∷ 0xc000_0000_0000_0000
    ∷ 0 ∷ 0x3ff0_0000_0000_0000 ∷ 0xc000_0000_0000_0000
    ∷ 0 ∷ 0x4000_0000_0000_0000 ∷ 0xbff0_0000_0000_0000
    ∷ 0x1fff_ffff_ffff_fffe ∷ 0 ∷ 0x4000_0000_0000_0000
    ∷ 0x2000_0000_0000_0001 ∷ 0 ∷ 0xbff0_0000_0000_0000
    ∷ 0 ∷ 0x4000_0000_0000_0000 ∷ 0 ∷ [])
    false 3 0
    -- a product just below 2^-1022
    ∷ frame (0 ∷ 0 ∷ 0xc000_0000_0000_0000
    ∷ 0 ∷ 0x3ff0_0000_0000_0000 ∷ 0xc000_0000_0000_0000
    ∷ 0 ∷ 0x4000_0000_0000_0000 ∷ 0xbff0_0000_0000_0000
    ∷ 0x1fff_ffff_ffff_ffff ∷ 0 ∷ 0x4000_0000_0000_0000
    ∷ 0x2000_0000_0000_0000 ∷ 0 ∷ 0xbff0_0000_0000_0000
    ∷ 0 ∷ 0x4000_0000_0000_0000 ∷ 0 ∷ [])
    false 3 0
    -- a product of 2^-1023
    ∷ frame (0 ∷ 0 ∷ 0xc000_0000_0000_0000
    ∷ 0 ∷ 0x3ff0_0000_0000_0000 ∷ 0xc000_0000_0000_0000
    ∷ 0 ∷ 0x4000_0000_0000_0000 ∷ 0xbff0_0000_0000_0000
    ∷ 0x2000_0000_0000_0000 ∷ 0 ∷ 0x4000_0000_0000_0000
    ∷ 0x1ff0_0000_0000_0000 ∷ 0 ∷ 0xbff0_0000_0000_0000
    ∷ 0 ∷ 0x4000_0000_0000_0000 ∷ 0 ∷ [])
    false 3 0
    ∷ []
