-- `pack_finite` meets its contract: the bit pattern of so many smallest doubles (Patterns.antt).
-- Assumes nothing.
use Rattle.std.proofs.Common.{◌∙◌}
use lib.Ieee.{binary64}
use Rattle.ieee754_parts.proofs.Patterns.{units-finite}
use Rattle.ieee754_parts.proofs.pack.pack_finite.Goals as goal

pub returns : goal.returns
returns c =
    c.with_sign.ensures
    ∙ units-finite binary64 c.args.sig c.args.exp c.requires.0 c.requires.1
    c.args.negative c.requires.2
