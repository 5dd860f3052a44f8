-- Every definition that a solve computes with, its own and those of the crates below, opened at
-- once: under `unfolding evaluated` the solve of a concrete frame computes. Assumes nothing.
use Rattle.frames.proofs.Evaluated.{evaluated as frames-evaluated}
use Rattle.polynomial.proofs.Evaluated.{evaluated as roots-evaluated}
use Rattle.refinement.proofs.Evaluated.{evaluated as refinement-evaluated}
use Rattle.p3p_common.proofs.Evaluated.{evaluated as gates-evaluated}
use Rattle.eigen.proofs.Evaluated.{evaluated as eigen-evaluated}
use Rattle.orderings.proofs.Evaluated.{evaluated as orderings-evaluated}
use Rattle.depths.proofs.Evaluated.{evaluated as depths-evaluated}
use Rattle.lambdatwist.specs.Poses.{all_positive, push_depths, pose_turn, pose_turns, poses}
use Rattle.lambdatwist.specs.Solve.{answered, refused, if_kept, solve_candidates, solve_root}
use Rattle.lambdatwist.specs.Solve.{solve_cubic, ordered_or, best_or, solve_ordered, solve}

unfoldable pub evaluated : Unit {0}
unfolding frames-evaluated roots-evaluated refinement-evaluated gates-evaluated eigen-evaluated
    orderings-evaluated depths-evaluated all_positive push_depths pose_turn pose_turns poses answered
    refused if_kept solve_candidates solve_root solve_cubic ordered_or best_or solve_ordered solve
evaluated = tt
