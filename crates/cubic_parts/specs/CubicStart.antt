-- The root from which `polished_cubic_root` of polynomial.rs starts its Newton steps, of x^3 +
-- b*x^2 + c*x + d: Cardano's where it is the only real one; else a point outside a turning point,
-- or -b / 3 where there are no turning points. The Rust returns None only at a turning point, where
-- the parabola there has no leading term or a negative radicand.
use Rattle.std.specs.Prelude.{◌||◌, Float, Option, Some, None, if◌then◌else◌}
use Rattle.std.specs.Float.Ieee.{neg, lt, le, eq}
use Rattle.ieee754.specs.Literal.{plus_zero, half, two}
use Rattle.ieee754.specs.Traced.{Traced, pure, ◌>>=◌, with_some, !◌, ⊝◌, √◌}
use Rattle.ieee754.specs.Traced.{◌⊗◌, ◌⊘◌, ◌⊕◌, ◌⊖◌}
use Rattle.cubic_parts.specs.Literal.{three, twenty_seven}
use Rattle.cubic_parts.specs.Cardano.{cardano_single_real}
use Rattle.cubic_parts.specs.Types.{Monic}

-- ((root + b) * root + c) * root + d
unfoldable pub cubic_value : Monic → Float → Traced Float
cubic_value m root = ((! root ⊕ ! m.b) ⊗ ! root ⊕ ! m.c) ⊗ ! root ⊕ ! m.d

-- how far outside the turning point the root lies, by the parabola that the cubic is like there
unfoldable pub turning_offset : Monic → Float → Float → Traced (Option Float)
turning_offset m turning value = do
  -- let denominator = 3.0 * left + b;
  denominator ← ! three ⊗ ! turning ⊕ ! m.b
  -- let radicand = -left_value / denominator;
  radicand ← ⊝ ! value ⊘ ! denominator
  if eq denominator plus_zero || lt radicand plus_zero then pure None
      else do
        offset ← √ ! radicand
        pure (Some offset)

-- left - radicand.sqrt()
unfoldable pub left_start : Monic → Float → Float → Traced (Option Float)
left_start m left left_value = do
  step ← turning_offset m left left_value
  with_some step (pure None) (λ offset. do
    root ← ! left ⊖ ! offset
    pure (Some root))

-- right + radicand.sqrt()
unfoldable pub right_start : Monic → Float → Traced (Option Float)
right_start m turning_span = do
  -- let right = (-b + turning_span) / 3.0;
  right ← (⊝ ! m.b ⊕ ! turning_span) ⊘ ! three
  right_value ← cubic_value m right
  step ← turning_offset m right right_value
  with_some step (pure None) (λ offset. do
    root ← ! right ⊕ ! offset
    pure (Some root))

unfoldable pub turning_start : Monic → Traced (Option Float)
turning_start m = do
  -- let turning_span = (b * b - 3.0 * c).sqrt();
  turning_span ← √ (! m.b ⊗ ! m.b ⊖ ! three ⊗ ! m.c)
  -- let left = (-b - turning_span) / 3.0;
  left ← (⊝ ! m.b ⊖ ! turning_span) ⊘ ! three
  left_value ← cubic_value m left
  if lt plus_zero left_value then left_start m left left_value
      else right_start m turning_span

unfoldable pub start_root : Monic → Traced (Option Float)
start_root m = do
  b3 ← ! m.b ⊘ ! three
  -- let p = c - b * b3;
  p ← ! m.c ⊖ ! m.b ⊗ ! b3
  -- let q = d + b3 * (2.0 * b3 * b3 - c);
  q ← ! m.d ⊕ ! b3 ⊗ (! two ⊗ ! b3 ⊗ ! b3 ⊖ ! m.c)
  half_q ← ! half ⊗ ! q
  -- let discriminant = half_q * half_q + p * p * p / 27.0;
  discriminant ← ! half_q ⊗ ! half_q ⊕ ! p ⊗ ! p ⊗ ! p ⊘ ! twenty_seven
  if lt plus_zero discriminant then (do
    u ← cardano_single_real p half_q discriminant
    root ← ! u ⊖ ! b3
    pure (Some root))
      else do
        -- b * b >= 3.0 * c
        square ← ! m.b ⊗ ! m.b
        triple ← ! three ⊗ ! m.c
        if le triple square then turning_start m
            else pure (Some (neg b3))
