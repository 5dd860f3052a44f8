-- The literals and constants of pose/p3p/common.rs, each by its bit pattern.
use Rattle.std.specs.Prelude.{Float}
use Rattle.ieee754.specs.Literal.{double, ten⁻¹⁰}

-- NEAR_ROTATION_TOLERANCE, 1e-10
abbrev pub near_rotation_tolerance : Float
near_rotation_tolerance = ten⁻¹⁰

-- PROJECTED_RAY_TOLERANCE, 2 ^ -20
abbrev pub projected_ray_tolerance : Float
projected_ray_tolerance = double 0x3eb0_0000_0000_0000
