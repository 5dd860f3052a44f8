-- `guess` meets its contract: the patterns that it makes are no NaN's. Assumes nothing.
use Prim.Native.Nat.{ℕ, ◌+◌, ◌*◌, ◌/◌, ◌^◌, ◌≤◌, ◌<◌}
use native.Mathlib.Omega.{arith}
use lib.Ieee.{binary64}
use Rattle.ieee754_parts.proofs.Reading.{no_nan, below-not-nan}
use Rattle.ieee754_roots.proofs.sqrt.guess.Goals as goal

upper_digits : (b : ℕ) → b < 0x7ff0000000000000 → b / 2 ^ 27 * 2 ^ 27 ≤ 0x7ff0000000000000
upper_digits b h = omega arith

pub float_from_bits-x : goal.float_from_bits-x
float_from_bits-x c =
    no_nan binary64 ((1022 + c.args.odd) * 2 ^ 52 + c.args.m) (omega arith)

pub float_to_bits-pattern : goal.float_to_bits-pattern
float_to_bits-pattern c = below-not-nan _ _ c.if-a.true

pub float_from_bits-top : goal.float_from_bits-top
float_from_bits-top c = no_nan binary64 _ (upper_digits _ c.if-pattern-lt-INFINITY.true)
