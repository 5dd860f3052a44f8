-- `from_bits` meets its contract: a pattern above the infinity's, the sign taken off, is a NaN's.
-- Assumes nothing.
use borrow.Author.Rules.{rules}
use mathlib.Core.Path.{◌≡◌, refl, sym, ◌∙◌}
use lib.Arith.{le→nltb}
use lib.Ieee.{nan, binary64, of_bits}
use lib.Ieee.Bits.{nan_bits_is, nan_bits_above}
use borrow.Author.Tests.{lt-ltb}
use Rattle.ieee754.proofs.Sign.{nan_is}
use Rattle.ieee754.proofs.bits.from_bits.Goals as goal

nan-pattern : of_bits binary64 0x7ff8_0000_0000_0000 ≡ nan
unfolding of_bits
nan-pattern = refl

pub returns-then-magnitude-gt-INFINITY : goal.returns-then-magnitude-gt-INFINITY
returns-then-magnitude-gt-INFINITY c =
    nan-pattern
    ∙ sym (nan_is _
    (sym (nan_bits_is binary64 c.args.pattern)
    ∙ nan_bits_above binary64 c.args.pattern
    ∙ lt-ltb _ _ (search rules)))

pub float_from_bits-result : goal.float_from_bits-result
float_from_bits-result c =
    rw (nan_bits_above binary64 c.args.pattern) (le→nltb _ _ (search rules))
