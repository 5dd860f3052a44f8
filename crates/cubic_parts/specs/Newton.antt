-- The Newton steps of `polished_cubic_root` of polynomial.rs, each with its stops.
use Rattle.std.specs.Prelude.{ℕ, zero, suc, not, ◌||◌, Float, Option, Some, None, if◌then◌else◌}
use Rattle.std.specs.Float.Ieee.{lt, eq}
use Rattle.std.specs.Float.Ieee.Scale.{finite}
use Rattle.ieee754.specs.Literal.{plus_zero, two}
use Rattle.ieee754.specs.Magnitude.{abs}
use Rattle.ieee754.specs.Traced.{Traced, pure, ◌>>=◌, with_some, !◌, ◌⊗◌, ◌⊘◌, ◌⊕◌, ◌⊖◌}
use Rattle.cubic_parts.specs.Literal.{three, ten⁻¹⁴}
use Rattle.cubic_parts.specs.CubicStart.{cubic_value}
use Rattle.cubic_parts.specs.Types.{Monic}

unfoldable pub newton_step : Monic → Float → Traced (Option Float)
newton_step m root = do
  value ← cubic_value m root
  if lt (abs value) ten⁻¹⁴ then pure None
      else do
        -- let derivative = (3.0 * root + 2.0 * b) * root + c;
        derivative ← (! three ⊗ ! root ⊕ ! two ⊗ ! m.b) ⊗ ! root ⊕ ! m.c
        if not (finite value) || not (finite derivative) || eq derivative plus_zero then pure None
            else do
              -- let candidate = root - value / derivative;
              candidate ← ! root ⊖ ! value ⊘ ! derivative
              if not (finite candidate) then pure None
                  else do
                    candidate_value ← cubic_value m candidate
                    if lt (abs value) (abs candidate_value) then pure None
                        else pure (Some candidate)

-- at most n steps from the root
unfoldable pub newton_steps : ℕ → Monic → Float → Traced Float
newton_steps zero m root = pure root
newton_steps (suc n) m root = do
  step ← newton_step m root
  with_some step (pure root) (λ next. newton_steps n m next)
