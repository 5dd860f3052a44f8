-- `cbrt_start`: the pattern of no number is above minus infinity's, a third of which and the
-- constant stay below infinity's.
use native.Mathlib.Omega.{arith}
use Prim.Native.Nat.{◌+◌, ◌/◌, ◌%◌, ◌<◌, ◌≤◌}
use denote.Floats.{passes}
use lib.Ieee.{binary64, to_bits}
use lib.Ieee.Bits.{to_bits-lt}
use Rattle.ieee754_parts.proofs.Reading.{in-range, no_nan}
use Rattle.cubic_parts.proofs.fast_cbrt.cbrt_start.Goals as goal

pub overflow_add-result : goal.overflow_add-result
overflow_add-result c =
    let bits = to_bits binary64 c.args.magnitude in
    let bound : bits < 0x1_0000_0000_0000_0000 =
    to_bits-lt binary64 _ (passes _ c.well_formed.0.1) in
    omega (arith, c.third.ensures)

pub float_from_bits-result : goal.float_from_bits-result
float_from_bits-result c =
    let fits = passes _ c.well_formed.0.1 in
    let bits = to_bits binary64 c.args.magnitude in
    let bound : bits < 0x1_0000_0000_0000_0000 = to_bits-lt binary64 _ fits in
    let number : bits % 0x8000_0000_0000_0000 ≤ 0x7ff0_0000_0000_0000 =
    in-range binary64 _ fits c.requires in
    let below : bits / 3 + 0x2a9f_7625_3119_d328 ≤ 0x7ff0_0000_0000_0000 = omega arith in
    rw c.third.ensures (no_nan binary64 _ below)
