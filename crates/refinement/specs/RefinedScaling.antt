-- What the scaling rule says of two refinements: depths at degree 1, and as many updates.
use Rattle.std.specs.Prelude.{◌≡◌, ℤ, pos}
use Rattle.linalg.specs.VectorScaling.{AtVector}
use Rattle.refinement.specs.Types.{Refined}

pub record AtRefined (k : ℤ) (r r' : Refined) : Type 0 where
  pub depths : AtVector k (pos 1) r.depths r'.depths
  pub updates : r.updates ≡ r'.updates
