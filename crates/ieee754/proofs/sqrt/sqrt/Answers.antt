-- `sqrt` meets its contract: the machine's root is the definition's (RootIeee.antt). Assumes
-- nothing.
use mathlib.Core.Path.{◌∙◌}
use denote.Floats.{passes}
use Rattle.ieee754.proofs.RootIeee.{ieee-sqrt}
use Rattle.ieee754.proofs.sqrt.sqrt.Goals as goal

pub returns : goal.returns
returns c = c.sqrt.ensures.value ∙ ieee-sqrt c.args.x (passes _ c.well_formed.0.1)
