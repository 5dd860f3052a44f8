-- Every definition of a single operation, and of the scaling rule's premise of it, opened at once:
-- under `unfolding evaluated` an operation on concrete doubles computes. Assumes nothing.
use lib.Ieee.{of_bits, to_bits, size, add, sub, mul, div, sum, round, neg, lt, le, eq, is_nan}
use Rattle.ieee754.specs.Magnitude.{abs}
use Rattle.ieee754.specs.CopySign.{copysign}
use Rattle.ieee754.specs.Maximum.{max}
use Rattle.ieee754.specs.Clamp.{clamp}
use Rattle.ieee754.specs.TotalOrder.{total_order, total_cmp}
use Rattle.ieee754.specs.Root.{sqrt, cbrt, round_root, root, root_digits}
use Rattle.ieee754.specs.Fma.{fma}
use Rattle.ieee754.specs.Traced.{in_range, add_regular, mul_regular, div_regular, fma_regular}
use Rattle.ieee754.specs.Traced.{sqrt_regular, cbrt_regular}

unfoldable pub evaluated : Unit {0}
unfolding abs copysign max clamp total_order total_cmp sqrt cbrt round_root root root_digits fma in_range
    add_regular mul_regular div_regular fma_regular sqrt_regular cbrt_regular of_bits to_bits size add sub
    mul div sum round neg lt le eq is_nan
evaluated = tt
