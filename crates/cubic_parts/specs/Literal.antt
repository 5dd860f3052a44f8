-- The literals of the cubic's parts in polynomial.rs, each by its bit pattern. The powers of ten
-- are the nearest doubles.
use Rattle.std.specs.Prelude.{Float}
use Rattle.ieee754.specs.Literal.{double}

abbrev pub three : Float
three = double 0x4008_0000_0000_0000

abbrev pub twenty_seven : Float
twenty_seven = double 0x403b_0000_0000_0000

-- 1e-14
abbrev pub ten⁻¹⁴ : Float
ten⁻¹⁴ = double 0x3d06_849b_86a1_2b9b

-- 1e50, 1e100, 1e150
abbrev pub ten⁵⁰ : Float
ten⁵⁰ = double 0x4a51_1b0e_c57e_649a

abbrev pub ten¹⁰⁰ : Float
ten¹⁰⁰ = double 0x54b2_49ad_2594_c37d

abbrev pub ten¹⁵⁰ : Float
ten¹⁵⁰ = double 0x5f13_8d35_2e50_96af

-- 1e-50, 1e-100, 1e-150
abbrev pub ten⁻⁵⁰ : Float
ten⁻⁵⁰ = double 0x358d_ee7a_4ad4_b81f

abbrev pub ten⁻¹⁰⁰ : Float
ten⁻¹⁰⁰ = double 0x2b2b_ff2e_e48e_0530

abbrev pub ten⁻¹⁵⁰ : Float
ten⁻¹⁵⁰ = double 0x20ca_2fe7_6a3f_9475
