-- Every definition that an eigensystem is computed with, opened at once: under
-- `unfolding evaluated` it computes on concrete numbers. Assumes nothing.
use Rattle.linalg.proofs.Evaluated.{evaluated as linalg-evaluated}
use Rattle.polynomial.proofs.Evaluated.{evaluated as polynomial-evaluated}
use Rattle.eigen.specs.RowCrosses.{last_greatest, longer, unit_vector}
use Rattle.eigen.specs.RowCrosses.{eigenvector_from_row_crosses}
use Rattle.eigen.specs.ZeroVector.{zero_direction, zero_vector}
use Rattle.eigen.specs.EigenPair.{pair_coefficient, nonzero_pair, by_magnitude, eigenvalue_pair}
use Rattle.eigen.specs.EigenvectorOf.{precompute, eigen_denominator, denominator_scale}
use Rattle.eigen.specs.EigenvectorOf.{if_finite}
use Rattle.eigen.specs.EigenvectorOf.{eigenvector_by_division, eigenvector_of}
use Rattle.eigen.specs.KnownZero.{system_of_pair, eig_with_known_zero}

unfoldable pub evaluated : Unit {0}
unfolding linalg-evaluated polynomial-evaluated last_greatest longer unit_vector
    eigenvector_from_row_crosses zero_direction zero_vector pair_coefficient nonzero_pair by_magnitude
    eigenvalue_pair precompute eigen_denominator denominator_scale if_finite eigenvector_by_division
    eigenvector_of system_of_pair eig_with_known_zero
evaluated = tt
