-- `guess` meets its contract: no pattern that it makes is a NaN's, and the result is tested.
-- Assumes nothing.
use Prim.Native.Nat.{◌+◌, ◌-◌, ◌*◌, ◌^◌}
use native.Mathlib.Omega.{arith}
use lib.Ieee.{binary64}
use Rattle.ieee754_parts.proofs.Reading.{no_nan, below-not-nan}
use Rattle.ieee754_roots.proofs.cbrt.guess.Goals as goal

pub float_from_bits-x : goal.float_from_bits-x
float_from_bits-x c = no_nan binary64 ((1022 + c.args.t) * 2 ^ 52 + c.args.m) (omega arith)

pub float_from_bits-y : goal.float_from_bits-y
float_from_bits-y c = no_nan binary64 (0x553e_f000_0000_0000 - c.third.result) (omega arith)

pub float_to_bits-q : goal.float_to_bits-q
float_to_bits-q c = below-not-nan _ _ c.if-root.true
