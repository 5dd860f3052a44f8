-- The literals and constants of f64 that more than one crate names, each by its bit pattern.
use Rattle.std.specs.Prelude.{ℕ, Bool, eqb, Float}
use Rattle.std.specs.Float.{binary64}
use Rattle.std.specs.Float.Ieee.{of_bits, to_bits}

-- the double that a pattern stands for
abbrev pub double : ℕ → Float
double b = of_bits binary64 b

-- whether a double has this pattern
unfoldable pub has_bits : Float → ℕ → Bool
has_bits x w = eqb (to_bits binary64 x) w

-- 0.0, 0.5, 1.0, 2.0 and 64.0
abbrev pub plus_zero : Float
plus_zero = double 0

abbrev pub half : Float
half = double 0x3fe0_0000_0000_0000

abbrev pub one : Float
one = double 0x3ff0_0000_0000_0000

abbrev pub two : Float
two = double 0x4000_0000_0000_0000

abbrev pub sixty_four : Float
sixty_four = double 0x4050_0000_0000_0000

-- 1e-10, the nearest double
abbrev pub ten⁻¹⁰ : Float
ten⁻¹⁰ = double 0x3ddb_7cdf_d9d7_bdbb

-- f64::EPSILON, 2 ^ -52
abbrev pub epsilon : Float
epsilon = double 0x3cb0_0000_0000_0000

-- f64::MIN_POSITIVE, 2 ^ -1022
abbrev pub min_positive : Float
min_positive = double 0x0010_0000_0000_0000
