-- `polished_cubic_root` of polynomial.rs: one real root of x^3 + b*x^2 + c*x + d.
use Rattle.std.specs.Prelude.{not, ◌||◌, Float, if◌then◌else◌}
use Rattle.std.specs.Float.Ieee.Scale.{finite}
use Rattle.ieee754.specs.Literal.{plus_zero}
use Rattle.ieee754.specs.Traced.{Traced, pure, ◌>>=◌, with_some, !◌, ◌⊗◌}
use Rattle.polynomial.specs.Answer.{not_finite, no_root}
use Rattle.cubic_parts.specs.CubicScale.{all_zero, cubic_variable_scale, normalised}
use Rattle.cubic_parts.specs.CubicStart.{start_root}
use Rattle.cubic_parts.specs.Newton.{newton_steps}
use Rattle.polynomial.specs.Types.{Monic, Roots, One}

-- at most four Newton steps from the start, and the root of the coefficients as they came
unfoldable pub rescaled_root : Monic → Float → Float → Traced Roots
rescaled_root m variable_scale start = do
  polished ← newton_steps 4 m start
  -- let root = root * variable_scale;
  root ← ! polished ⊗ ! variable_scale
  if finite root then pure (One root)
      else pure no_root

-- for finite coefficients of which one is not zero
unfoldable pub polished_root : Float → Float → Float → Traced Roots
polished_root b c d = do
  variable_scale ← cubic_variable_scale b c d
  m ← normalised b c d variable_scale
  start ← start_root m
  with_some start (pure no_root) (λ root. rescaled_root m variable_scale root)

unfoldable pub polished_cubic_root : Float → Float → Float → Traced Roots
polished_cubic_root b c d =
    if not (finite b) || not (finite c) || not (finite d) then pure not_finite
    else if all_zero b c d then pure (One plus_zero)
    else polished_root b c d
