-- Every definition that the refinement is computed with, opened at once: under
-- `unfolding evaluated` it computes. Assumes nothing.
use Rattle.linalg.proofs.Evaluated.{evaluated as vectors-evaluated}
use Rattle.refinement.specs.RefineDepths.{depth_residual, if_finite, depth_update, depth_step}
use Rattle.refinement.specs.RefineDepths.{refine_turns, refine_depths}

unfoldable pub evaluated : Unit {0}
unfolding vectors-evaluated depth_residual if_finite depth_update depth_step refine_turns refine_depths
evaluated = tt
