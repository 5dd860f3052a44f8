-- The cases of document 01 that speak of the quadratic and the cubic hold of the definitions
-- (`root-cases`): they compute. Assumes nothing.
use lib.Dec.{T}
use Rattle.ieee754.specs.Literal.{has_bits}
use Rattle.polynomial.specs.Cases.{have_bits, answers, root_case_holds, every, root_cases}
use Rattle.polynomial.proofs.Evaluated.{evaluated}

pub root-cases : T (every root_case_holds root_cases)
unfolding evaluated every root_cases root_case_holds answers have_bits has_bits
root-cases = tt
