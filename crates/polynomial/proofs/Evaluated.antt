-- Every definition that a root is computed with, opened at once: under `unfolding evaluated` the
-- roots of concrete coefficients compute. Assumes nothing.
use Rattle.cubic_parts.proofs.Evaluated.{evaluated as parts-evaluated}
use Rattle.polynomial.specs.Quadratic.{double_root, quadratic_pair}
use Rattle.polynomial.specs.Quadratic.{quadratic_real_monic_computed, quadratic_real_monic}
use Rattle.polynomial.specs.PolishedRoot.{rescaled_root, polished_root, polished_cubic_root}

unfoldable pub evaluated : Unit {0}
unfolding parts-evaluated quadratic_real_monic quadratic_real_monic_computed quadratic_pair double_root
    polished_cubic_root polished_root rescaled_root
evaluated = tt
