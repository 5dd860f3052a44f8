-- `negative` meets its contract: the sign's bit is the pattern's highest. Assumes nothing.
use mathlib.Core.Path.{sym, ap, ◌∙◌}
use lib.Ieee.{binary64}
use denote.Floats.{passes}
use Rattle.ieee754.specs.CopySign.{negative}
use Rattle.ieee754_parts.proofs.Tests.{denied}
use Rattle.ieee754.proofs.Sign.{nan_is, negative-bits}
use Rattle.ieee754.proofs.copysign.negative.Goals as goal

pub returns-then-is_nan : goal.returns-then-is_nan
returns-then-is_nan c =
    sym (ap negative (nan_is c.args.y (sym c.is_nan.ensures.value ∙ c.if-is_nan.true)))

pub returns-else-is_nan : goal.returns-else-is_nan
returns-else-is_nan c =
    negative-bits binary64 c.args.y (passes _ c.well_formed.0.1)
    (denied c.is_nan.ensures.value c.if-is_nan.false)
