-- `fast_cbrt` of polynomial.rs: a cube root by two steps of Halley's method, from a start that
-- divides the bit pattern by three.
use Rattle.std.specs.Prelude.{◌+◌, ◌/◌, not, ◌||◌, Float, if◌then◌else◌}
use Rattle.std.specs.Prelude.{Option, Some, None}
use Rattle.std.specs.Float.{binary64}
use Rattle.std.specs.Float.Ieee.{to_bits, of_bits, lt, eq}
use Rattle.std.specs.Float.Ieee.Scale.{finite}
use Rattle.ieee754.specs.Literal.{plus_zero, one, two, min_positive}
use Rattle.ieee754.specs.Magnitude.{abs}
use Rattle.ieee754.specs.CopySign.{copysign}
use Rattle.ieee754.specs.Traced.{Traced, pure, ◌>>=◌, with_some, !◌, ∛◌, ◌⊗◌, ◌⊘◌, ◌⊕◌}

-- f64::from_bits(magnitude.to_bits() / 3 + 0x2A9F_7625_3119_D328)
unfoldable pub cbrt_start : Float → Float
cbrt_start magnitude = of_bits binary64 (to_bits binary64 magnitude / 3 + 0x2a9f_7625_3119_d328)

-- one turn of the loop
unfoldable pub cbrt_step : Float → Float → Traced (Option Float)
cbrt_step magnitude root = do
  cube ← ! root ⊗ ! root ⊗ ! root
  if not (finite cube) || eq cube plus_zero then pure None
      else do
        ratio ← ! magnitude ⊘ ! cube
        -- root *= (1.0 + 2.0 * ratio) / (2.0 + ratio);
        next ← ! root ⊗ ((! one ⊕ ! two ⊗ ! ratio) ⊘ (! two ⊕ ! ratio))
        pure (Some next)

-- a stop in either step is `return value.cbrt()`
unfoldable pub cbrt_steps : Float → Float → Traced Float
cbrt_steps value magnitude = do
  first ← cbrt_step magnitude (cbrt_start magnitude)
  with_some first (∛ ! value) (λ root. do
    second ← cbrt_step magnitude root
    with_some second (∛ ! value) (λ root. pure (copysign root value)))

unfoldable pub fast_cbrt : Float → Traced Float
fast_cbrt value =
    if eq value plus_zero then pure plus_zero
    else if not (finite (abs value)) || lt (abs value) min_positive then ∛ ! value
    else cbrt_steps value (abs value)
