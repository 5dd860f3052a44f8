-- `shift_right` meets its contract: the shift of two-word numbers of any width, at 64. Assumes
-- nothing.
use Rattle.std.proofs.Common.{le_of_lt, rules}
use mir.Facts.{Fits-bits}
use Rattle.ieee754_parts.proofs.Carry.{shifted, shifted-lt}
use Rattle.ieee754_parts.proofs.wide.shift_right.Goals as goal

pub overflow_add-result : goal.overflow_add-result
overflow_add-result c =
    let v = c.args.v in
    Fits-bits 64 tt (shifted-lt 64 c.args.k v.hi v.lo (le_of_lt c.requires.1) c.requires.2
    (search rules))

pub returns : goal.returns
returns c =
    let v = c.args.v in
    shifted 64 c.args.k v.hi v.lo (le_of_lt c.requires.1) c.requires.2
    (search rules)
