-- `to_bits` meets its contract. Assumes nothing.
use mathlib.Core.Path.{◌≡◌, refl, sym, ap, ◌∙◌}
use lib.Ieee.{nan, binary64, to_bits}
use Rattle.ieee754.proofs.Sign.{nan_is}
use Rattle.ieee754.proofs.bits.to_bits.Goals as goal

nan-bits : 0x7ff8_0000_0000_0000 ≡ to_bits binary64 nan
unfolding to_bits
nan-bits = refl

pub returns-then-is_nan : goal.returns-then-is_nan
returns-then-is_nan c =
    nan-bits ∙ sym (ap (to_bits binary64) (nan_is c.args.x (sym c.is_nan.ensures.value ∙ c.if-is_nan.true)))
