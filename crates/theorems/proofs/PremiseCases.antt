-- Frames at the ends of the scaling rule's premise meet it or not, as specs/PremiseCases says: they
-- compute. Assumes nothing.
use lib.Dec.{T}
use Rattle.polynomial.specs.Cases.{every}
use Rattle.frames.specs.Lent.{vector_at, world_at, bearings_at}
use Rattle.lambdatwist.proofs.Evaluated.{evaluated}
use Rattle.theorems.specs.PremiseCases.{premise_case_holds, premise_cases}

pub premise-cases : T (every premise_case_holds premise_cases)
unfolding evaluated every premise_cases premise_case_holds vector_at world_at bearings_at
premise-cases = tt
