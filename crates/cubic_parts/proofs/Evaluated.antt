-- Every definition that a cubic's root is made with, opened at once: under `unfolding evaluated`
-- they compute. Assumes nothing.
use Rattle.ieee754.proofs.Evaluated.{evaluated as operations-evaluated}
use Rattle.cubic_parts.specs.FastCbrt.{cbrt_start, cbrt_step, cbrt_steps, fast_cbrt}
use Rattle.cubic_parts.specs.Cardano.{cardano_single_real}
use Rattle.cubic_parts.specs.CubicScale.{all_zero, large, tiny, root_magnitude}
use Rattle.cubic_parts.specs.CubicScale.{cubic_variable_scale, normalised}
use Rattle.cubic_parts.specs.CubicStart.{cubic_value, turning_offset, left_start, right_start}
use Rattle.cubic_parts.specs.CubicStart.{turning_start, start_root}
use Rattle.cubic_parts.specs.Newton.{newton_step, newton_steps}

unfoldable pub evaluated : Unit {0}
unfolding operations-evaluated cbrt_start cbrt_step cbrt_steps fast_cbrt cardano_single_real all_zero large
    tiny root_magnitude cubic_variable_scale normalised cubic_value turning_offset left_start right_start
    turning_start start_root newton_step newton_steps
evaluated = tt
