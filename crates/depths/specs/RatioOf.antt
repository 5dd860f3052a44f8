-- The square root of minus the second eigenvalue over the first, with either sign of which a null
-- vector is made: `solve_ordered` (lambdatwist.rs), from `let ratio_squared` on.
use Rattle.std.specs.Prelude.{Bool, true, not, Float, if◌then◌else◌}
use Rattle.std.specs.Float.Ieee.{lt}
use Rattle.std.specs.Float.Ieee.Scale.{finite}
use Rattle.ieee754.specs.Literal.{plus_zero, sixty_four, epsilon}
use Rattle.ieee754.specs.Maximum.{max}
use Rattle.ieee754.specs.Traced.{Traced, pure, ◌>>=◌, ◌⊗◌, ◌⊘◌, !◌, ⊝◌, √◌}
use Rattle.depths.specs.Types.{Option, Some, None}

-- !ratio_squared.is_finite() || ratio_squared < -f64::EPSILON * 64.0: the product is reached only
-- where the ratio is finite
unfoldable pub is_not_real : Float → Traced Bool
is_not_real ratio_squared =
    if not (finite ratio_squared) then pure true
    else do
      limit ← ⊝ ! epsilon ⊗ ! sixty_four
      pure (lt ratio_squared limit)

unfoldable pub ratio_of : Float → Float → Traced (Option Float)
ratio_of first second = do
  -- let ratio_squared = -eigenvalues[1] / eigenvalues[0];
  ratio_squared ← ⊝ ! second ⊘ ! first
  not_real ← is_not_real ratio_squared
  if not_real then pure None
      else do
        -- let ratio = ratio_squared.max(0.0).sqrt();
        ratio ← √ ! max ratio_squared plus_zero
        pure (Some ratio)
