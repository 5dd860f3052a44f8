-- The cases marked P of document 01 hold of the definitions (`marked-cases`): those of the root
-- finders are polynomial's `root-cases`, and the others compute. Assumes nothing.
use mathlib.Core.List.{◌++◌, map}
use lib.Dec.{T}
use Rattle.ieee754.specs.Literal.{has_bits}
use Rattle.polynomial.specs.Cases.{every, root_cases}
use Rattle.polynomial.proofs.Every.{every_append, every_map}
use Rattle.polynomial.proofs.RootCases.{root-cases}
use Rattle.lambdatwist.proofs.Evaluated.{evaluated}
use Rattle.theorems.specs.Cases.{roots, refined_to, refused_with, marked_case_holds, pose_cases}
use Rattle.theorems.specs.Cases.{solve_cases, marked_cases}

-- no root finder is opened here
the-roots : T (every marked_case_holds (map roots root_cases))
unfolding marked_case_holds
the-roots = every_map marked_case_holds roots root_cases root-cases

the_others : T (every marked_case_holds (pose_cases ++ solve_cases))
unfolding evaluated every pose_cases refined_to has_bits solve_cases marked_case_holds refused_with
the_others = tt

pub marked-cases : T (every marked_case_holds marked_cases)
unfolding marked_cases
marked-cases =
    every_append marked_case_holds (map roots root_cases) (pose_cases ++ solve_cases) the-roots
    the_others
