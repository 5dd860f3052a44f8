-- Every definition that an ordering is measured and chosen with, opened at once: under
-- `unfolding evaluated` they compute. Assumes nothing.
use Rattle.linalg.proofs.Evaluated.{evaluated as vectors-evaluated}
use Rattle.orderings.specs.Edges.{edge_vectors, squared_edges}
use Rattle.orderings.specs.Angles.{cosine, cosines, squared_sines, bearing_factors}
use Rattle.orderings.specs.Cubic.{cubic_coefficients, coefficient_scale, is_unusable}
use Rattle.orderings.specs.Basis.{basis_of}
use Rattle.orderings.specs.Measure.{measure_with, measure, measured_cubic}
use Rattle.orderings.specs.Condition.{folded_scale, leading_share, condition_of_edges}
use Rattle.orderings.specs.Condition.{leading_cubic_condition}
use Rattle.orderings.specs.Permutation.{with_condition, better, best_of, best_permutation}

unfoldable pub evaluated : Unit {0}
unfolding vectors-evaluated edge_vectors squared_edges cosine cosines squared_sines bearing_factors
    cubic_coefficients coefficient_scale is_unusable basis_of measure_with measure measured_cubic
    folded_scale leading_share condition_of_edges leading_cubic_condition with_condition better best_of best_permutation
evaluated = tt
