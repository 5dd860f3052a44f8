-- `scaleb` meets its contract: the product is not rounded. Assumes nothing.
use denote.Floats.{passes}
use Rattle.scaleb.proofs.TimesLaws.{mul_power}
use Rattle.scaleb.proofs.times.scaleb.Goals as goal

pub returns : goal.returns
returns c =
    rw c.power_of_two.ensures
    (mul_power c.args.reach.k c.args.x (passes _ c.well_formed.0.1) c.requires)
