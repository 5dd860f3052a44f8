-- Worked examples of the definitions, by the bit patterns of operands and result, and computed. The
-- patterns are those of exact whole-number arithmetic. Assumes nothing.
use mathlib.Core.Bool.{Bool, true, false, ◌&&◌, beq}
use mathlib.Core.List.{List, [], ◌∷◌}
use Prim.Native.Nat.{ℕ}
use lib.Dec.{T, eqb}
use lib.Ieee.{Float, binary64, to_bits, of_bits, sum, add, mul}
use Rattle.ieee754.specs.Literal.{double}
use Rattle.ieee754.specs.Root.{sqrt, cbrt}
use Rattle.ieee754.specs.Fma.{fma}
use Rattle.ieee754.specs.Traced.{in_range, add_regular, mul_regular, div_regular}

-- f gives at each row's first pattern its second
unfoldable pub gives : (Float → Float) → List (ℕ × ℕ) → Bool
gives f [] = true
gives f (p ∷ ps) = eqb (to_bits binary64 (f (double p.0))) p.1 && gives f ps

-- 2, 3, 4, 1/4, 0.1; the neighbours of 1 below and above; the largest double, the smallest normal
-- one, the smallest and the largest subnormal one; zeros, infinities, a negative number, NaN
pub sqrt-examples : T (gives sqrt (
    (0x4000_0000_0000_0000, 0x3ff6_a09e_667f_3bcd) ∷ (0x4008_0000_0000_0000, 0x3ffb_b67a_e858_4caa)
    ∷ (0x4010_0000_0000_0000, 0x4000_0000_0000_0000)
    ∷ (0x3fd0_0000_0000_0000, 0x3fe0_0000_0000_0000)
    ∷ (0x3fb9_9999_9999_999a, 0x3fd4_3d13_6248_490f)
    ∷ (0x3fef_ffff_ffff_ffff, 0x3fef_ffff_ffff_ffff)
    ∷ (0x3ff0_0000_0000_0001, 0x3ff0_0000_0000_0000)
    ∷ (0x7fef_ffff_ffff_ffff, 0x5fef_ffff_ffff_ffff)
    ∷ (0x0010_0000_0000_0000, 0x2000_0000_0000_0000)
    ∷ (0x0000_0000_0000_0001, 0x1e60_0000_0000_0000)
    ∷ (0x000f_ffff_ffff_ffff, 0x1fff_ffff_ffff_ffff)
    ∷ (0x0000_0000_0000_0000, 0x0000_0000_0000_0000)
    ∷ (0x8000_0000_0000_0000, 0x8000_0000_0000_0000)
    ∷ (0x7ff0_0000_0000_0000, 0x7ff0_0000_0000_0000)
    ∷ (0xfff0_0000_0000_0000, 0x7ff8_0000_0000_0000)
    ∷ (0xbff0_0000_0000_0000, 0x7ff8_0000_0000_0000)
    ∷ (0x7ff8_0000_0000_0000, 0x7ff8_0000_0000_0000) ∷ []))
unfolding gives sqrt to_bits of_bits
sqrt-examples = tt

-- 8, -27, 2, 10; the neighbours of 1 below and above; the largest double, the smallest normal one,
-- the smallest subnormal one, and thrice that below zero; zeros, infinities, NaN
pub cbrt-examples : T (gives cbrt (
    (0x4020_0000_0000_0000, 0x4000_0000_0000_0000) ∷ (0xc03b_0000_0000_0000, 0xc008_0000_0000_0000)
    ∷ (0x4000_0000_0000_0000, 0x3ff4_28a2_f98d_728b)
    ∷ (0x4024_0000_0000_0000, 0x4001_3c48_4138_704f)
    ∷ (0x3fef_ffff_ffff_ffff, 0x3ff0_0000_0000_0000)
    ∷ (0x3ff0_0000_0000_0001, 0x3ff0_0000_0000_0000)
    ∷ (0x7fef_ffff_ffff_ffff, 0x5544_28a2_f98d_728b)
    ∷ (0x0010_0000_0000_0000, 0x2aa4_28a2_f98d_728b)
    ∷ (0x0000_0000_0000_0001, 0x2990_0000_0000_0000)
    ∷ (0x8000_0000_0000_0003, 0xa997_1374_4912_3ef6)
    ∷ (0x0000_0000_0000_0000, 0x0000_0000_0000_0000)
    ∷ (0x8000_0000_0000_0000, 0x8000_0000_0000_0000)
    ∷ (0x7ff0_0000_0000_0000, 0x7ff0_0000_0000_0000)
    ∷ (0xfff0_0000_0000_0000, 0xfff0_0000_0000_0000)
    ∷ (0x7ff8_0000_0000_0000, 0x7ff8_0000_0000_0000) ∷ []))
unfolding gives cbrt to_bits of_bits
cbrt-examples = tt

unfoldable pub fma_gives : List (ℕ × ℕ × ℕ × ℕ) → Bool
fma_gives [] = true
fma_gives (p ∷ ps) =
    eqb (to_bits binary64 (fma (double p.0) (double p.1) (double p.2))) p.3
    && fma_gives ps

-- In rows: 2 * 3 + 4; (1 + 2^-52)^2 - (1 + 2^-51), which a rounding of the product would lose, and
-- 10 * 0.1 - 1; a tie, and just past it; half of the smallest double, alone and with the smallest
-- added; the largest double times 2, alone and with the largest taken off; 1 * 1 - 1, and -0 * 5
-- with -0 and with 0; products too small to be seen, with 0 and with -0; 1e100 * 1e100 - 1e200, and
-- a product of a subnormal; an infinite addend, 0 * ∞, ∞ - ∞, NaN
pub fma-examples : T (fma_gives (
    (0x4000_0000_0000_0000, 0x4008_0000_0000_0000, 0x4010_0000_0000_0000, 0x4024_0000_0000_0000)
    ∷ (0x3ff0_0000_0000_0001, 0x3ff0_0000_0000_0001, 0xbff0_0000_0000_0002, 0x3970_0000_0000_0000)
    ∷ (0x4024_0000_0000_0000, 0x3fb9_9999_9999_999a, 0xbff0_0000_0000_0000, 0x3c90_0000_0000_0000)
    ∷ (0x3ff0_0000_0000_0000, 0x3ff0_0000_0000_0000, 0x3ca0_0000_0000_0000, 0x3ff0_0000_0000_0000)
    ∷ (0x3ff0_0000_0000_0000, 0x3ff0_0000_0000_0000, 0x3ca0_0000_0000_0001, 0x3ff0_0000_0000_0001)
    ∷ (0x0000_0000_0000_0001, 0x3fe0_0000_0000_0000, 0x0000_0000_0000_0000, 0x0000_0000_0000_0000)
    ∷ (0x0000_0000_0000_0001, 0x3fe0_0000_0000_0000, 0x0000_0000_0000_0001, 0x0000_0000_0000_0002)
    ∷ (0x7fef_ffff_ffff_ffff, 0x4000_0000_0000_0000, 0x0000_0000_0000_0000, 0x7ff0_0000_0000_0000)
    ∷ (0x7fef_ffff_ffff_ffff, 0x4000_0000_0000_0000, 0xffef_ffff_ffff_ffff, 0x7fef_ffff_ffff_ffff)
    ∷ (0x3ff0_0000_0000_0000, 0x3ff0_0000_0000_0000, 0xbff0_0000_0000_0000, 0x0000_0000_0000_0000)
    ∷ (0x8000_0000_0000_0000, 0x4014_0000_0000_0000, 0x8000_0000_0000_0000, 0x8000_0000_0000_0000)
    ∷ (0x8000_0000_0000_0000, 0x4014_0000_0000_0000, 0x0000_0000_0000_0000, 0x0000_0000_0000_0000)
    ∷ (0x967e_a8a8_f4ce_4ea8, 0x167e_a8a8_f4ce_4ea8, 0x0000_0000_0000_0000, 0x8000_0000_0000_0000)
    ∷ (0x8000_0000_0000_0001, 0x0000_0000_0000_0001, 0x8000_0000_0000_0000, 0x8000_0000_0000_0000)
    ∷ (0x54b2_49ad_2594_c37d, 0x54b2_49ad_2594_c37d, 0xe974_e718_d7d7_625a, 0x6617_5f9a_ff3e_ac24)
    ∷ (0x4008_0000_0000_0000, 0x0000_0000_0000_0001, 0x0010_0000_0000_0000, 0x0010_0000_0000_0003)
    ∷ (0x7fef_ffff_ffff_ffff, 0x7fef_ffff_ffff_ffff, 0xfff0_0000_0000_0000, 0xfff0_0000_0000_0000)
    ∷ (0x0000_0000_0000_0000, 0x7ff0_0000_0000_0000, 0x3ff0_0000_0000_0000, 0x7ff8_0000_0000_0000)
    ∷ (0x7ff0_0000_0000_0000, 0x3ff0_0000_0000_0000, 0xfff0_0000_0000_0000, 0x7ff8_0000_0000_0000)
    ∷ (0x3ff0_0000_0000_0000, 0x7ff8_0000_0000_0000, 0x3ff0_0000_0000_0000, 0x7ff8_0000_0000_0000)
    ∷ []))
unfolding fma_gives fma add mul sum to_bits of_bits
fma-examples = tt

-- ---- the scaling rule's premise at its ends: whether the test says of each row's operands what
-- stands beside them
unfoldable pub says : (Float → Float → Bool) → List (ℕ × ℕ × Bool) → Bool
says f [] = true
says f (p ∷ ps) = beq (f (double p.0) (double p.1)) p.2 && says f ps

-- The largest double is 2^1024 - 2^971. With 2^970 added it reaches 2^1024 - 2^970, with the double
-- below that it does not. 2^-1022 + 2^-1074 - 2^-1022 is too small, 1 - 1 is zero. An infinity or a
-- NaN leaves no exact result.
pub add-premise : T (says add_regular (
    (0x7fef_ffff_ffff_ffff, 0x7c90_0000_0000_0000, false)
    ∷ (0x7fef_ffff_ffff_ffff, 0x7c8f_ffff_ffff_ffff, true)
    ∷ (0xffef_ffff_ffff_ffff, 0xfc90_0000_0000_0000, false)
    ∷ (0x0010_0000_0000_0001, 0x8010_0000_0000_0000, false)
    ∷ (0x3ff0_0000_0000_0000, 0xbff0_0000_0000_0000, true)
    ∷ (0x7ff0_0000_0000_0000, 0xfff0_0000_0000_0000, true)
    ∷ (0x7ff8_0000_0000_0000, 0x0000_0000_0000_0001, true) ∷ []))
unfolding says add_regular in_range of_bits
add-premise = tt

-- 2^-1022 * 1, and that times the double below 1; 2^512 * 2^512; a zero is no nonzero result,
-- however small the other factor
pub mul-premise : T (says mul_regular (
    (0x0010_0000_0000_0000, 0x3ff0_0000_0000_0000, true)
    ∷ (0x0010_0000_0000_0000, 0x3fef_ffff_ffff_ffff, false)
    ∷ (0x5ff0_0000_0000_0000, 0x5ff0_0000_0000_0000, false)
    ∷ (0x0000_0000_0000_0000, 0x0000_0000_0000_0001, true)
    ∷ (0x0000_0000_0000_0000, 0x7ff0_0000_0000_0000, true) ∷ []))
unfolding says mul_regular in_range of_bits
mul-premise = tt

-- a divisor that is a zero of either sign, under 1, 0, an infinity and a NaN; 0 / 1, 1 / ∞,
-- 2^-1022 / 2, 2^1023 / (1 / 2)
pub div-premise : T (says div_regular (
    (0x3ff0_0000_0000_0000, 0x0000_0000_0000_0000, false)
    ∷ (0x0000_0000_0000_0000, 0x8000_0000_0000_0000, false)
    ∷ (0x7ff0_0000_0000_0000, 0x8000_0000_0000_0000, false)
    ∷ (0x7ff8_0000_0000_0000, 0x0000_0000_0000_0000, false)
    ∷ (0x0000_0000_0000_0000, 0x3ff0_0000_0000_0000, true)
    ∷ (0x3ff0_0000_0000_0000, 0x7ff0_0000_0000_0000, true)
    ∷ (0x0010_0000_0000_0000, 0x4000_0000_0000_0000, false)
    ∷ (0x7fe0_0000_0000_0000, 0x3fe0_0000_0000_0000, false) ∷ []))
unfolding says div_regular in_range of_bits
div-premise = tt
