-- `cubic_variable_scale` of polynomial.rs, and the coefficients over that scale, with which
-- `polished_cubic_root` goes on.
use Rattle.std.specs.Prelude.{Bool, ◌&&◌, ◌||◌, Float, if◌then◌else◌}
use Rattle.std.specs.Float.Ieee.{lt, eq}
use Rattle.ieee754.specs.Literal.{plus_zero, one}
use Rattle.ieee754.specs.Magnitude.{abs}
use Rattle.ieee754.specs.Maximum.{max}
use Rattle.ieee754.specs.Traced.{Traced, pure, ◌>>=◌, !◌, √◌, ∛◌, ◌⊗◌, ◌⊘◌}
use Rattle.cubic_parts.specs.Literal.{ten⁵⁰, ten¹⁰⁰, ten¹⁵⁰, ten⁻⁵⁰, ten⁻¹⁰⁰, ten⁻¹⁵⁰}
use Rattle.cubic_parts.specs.Types.{Monic}

-- b == 0.0 && c == 0.0 && d == 0.0
unfoldable pub all_zero : Float → Float → Float → Bool
all_zero b c d = eq b plus_zero && eq c plus_zero && eq d plus_zero

-- b.abs() > 1e50 || c.abs() > 1e100 || d.abs() > 1e150
unfoldable pub large : Float → Float → Float → Bool
large b c d = lt ten⁵⁰ (abs b) || lt ten¹⁰⁰ (abs c) || lt ten¹⁵⁰ (abs d)

-- b.abs() < 1e-50 && c.abs() < 1e-100 && d.abs() < 1e-150
unfoldable pub tiny : Float → Float → Float → Bool
tiny b c d = lt (abs b) ten⁻⁵⁰ && lt (abs c) ten⁻¹⁰⁰ && lt (abs d) ten⁻¹⁵⁰

-- b.abs().max(c.abs().sqrt()).max(d.abs().cbrt()): of the magnitude of the largest root
unfoldable pub root_magnitude : Float → Float → Float → Traced Float
root_magnitude b c d = do
  root_c ← √ ! (abs c)
  root_d ← ∛ ! (abs d)
  pure (max (max (abs b) root_c) root_d)

unfoldable pub cubic_variable_scale : Float → Float → Float → Traced Float
cubic_variable_scale b c d =
    if all_zero b c d then pure one
    else if large b c d || tiny b c d then root_magnitude b c d
    else pure one

-- (b * inverse, c * inverse_squared, d * inverse_squared * inverse)
unfoldable pub normalised : Float → Float → Float → Float → Traced Monic
normalised b c d variable_scale =
    if eq variable_scale one then pure (record { b = b; c = c; d = d })
    else do
      inverse ← ! one ⊘ ! variable_scale
      inverse_squared ← ! inverse ⊗ ! inverse
      b' ← ! b ⊗ ! inverse
      c' ← ! c ⊗ ! inverse_squared
      d' ← ! d ⊗ ! inverse_squared ⊗ ! inverse
      pure (record { b = b'; c = c'; d = d' })
