-- `nearest` meets its contract: a guess that settles is right, and where none does the root is
-- found by halving. Assumes nothing.
use lib.Dec.{lit≤}
use Rattle.ieee754_roots.proofs.Moved.{moved-range, moved-nearest}
use Rattle.ieee754_roots.proofs.cbrt.nearest.Goals as goal

pub by_halving-requires : goal.by_halving-requires
by_halving-requires c =
    moved-range 3 c.args.m c.args.t c.requires.0 c.requires.1 c.requires.2 (lit≤ tt)

pub returns-in-Some : goal.returns-in-Some
returns-in-Some c =
    moved-nearest 3 c.args.m c.args.t c.requires.0 c.requires.1 c.requires.2 (lit≤ tt)
    c.in-Some.ensures

pub returns-in-None : goal.returns-in-None
returns-in-None c =
    moved-nearest 3 c.args.m c.args.t c.requires.0 c.requires.1 c.requires.2 (lit≤ tt)
    c.by_halving.ensures
