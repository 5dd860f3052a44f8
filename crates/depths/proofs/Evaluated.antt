-- Every definition from the matrix to the depth candidates, opened at once: under
-- `unfolding evaluated` they compute. Assumes nothing.
use Rattle.linalg.proofs.Evaluated.{evaluated as vectors-evaluated}
use Rattle.polynomial.proofs.Evaluated.{evaluated as roots-evaluated}
use Rattle.depths.specs.Matrix.{singular_matrix}
use Rattle.depths.specs.RatioOf.{is_not_real, ratio_of}
use Rattle.depths.specs.DepthSlots.{no_candidates, candidate, push_if_positive}
use Rattle.depths.specs.Charts.{for_roots, no_divisor, first_chart_depths, first_chart}
use Rattle.depths.specs.Charts.{second_chart_depths, weight_chart, second_chart, chart}
use Rattle.depths.specs.Signs.{sign_turn, candidates}

unfoldable pub evaluated : Unit {0}
unfolding vectors-evaluated roots-evaluated singular_matrix is_not_real ratio_of no_candidates
    candidate push_if_positive for_roots no_divisor first_chart_depths first_chart second_chart_depths weight_chart
    second_chart chart sign_turn candidates
evaluated = tt
