-- `quadratic_real_monic` and `quadratic_real_monic_computed` of polynomial.rs: the real roots of
-- x^2 + b*x + c. Document 01, module 2.
use Rattle.std.specs.Prelude.{not, ◌||◌, Float, if◌then◌else◌}
use Rattle.std.specs.Float.Ieee.{neg, lt, eq}
use Rattle.std.specs.Float.Ieee.Scale.{finite}
use Rattle.ieee754.specs.Literal.{plus_zero, half, epsilon, min_positive}
use Rattle.ieee754.specs.Magnitude.{abs}
use Rattle.ieee754.specs.CopySign.{copysign}
use Rattle.ieee754.specs.Maximum.{max}
use Rattle.ieee754.specs.Traced.{Traced, pure, ◌>>=◌, !◌, ⊝◌, √◌, ◌⊗◌, ◌⊘◌, ◌⊕◌}
use Rattle.ieee754.specs.Traced.{mul_add}
use Rattle.polynomial.specs.Literal.{four, thirty_two}
use Rattle.polynomial.specs.Answer.{not_finite, no_real_roots}
use Rattle.polynomial.specs.Types.{Roots, Two, Double, Lifted}

-- let discriminant = b.mul_add(b, -4.0 * c);
abbrev pub discriminant_of : Float → Float → Traced Float
discriminant_of b c = mul_add (! b) (! b) (⊝ ! four ⊗ ! c)

-- the band below zero in which the discriminant counts as zero
abbrev pub band_of : Float → Float → Traced Float
band_of b cScale = do
  -- let discriminant_scale = b * b + 4.0 * c_scale;
  discriminant_scale ← ! b ⊗ ! b ⊕ ! four ⊗ ! cScale
  -- let tolerance = 32.0 * f64::EPSILON * discriminant_scale.max(f64::MIN_POSITIVE);
  ! thirty_two ⊗ ! epsilon ⊗ ! (max discriminant_scale min_positive)

-- not in the Rust: a root that counts twice tells whether the discriminant as computed was lifted
-- to zero. Minus zero is not below zero. Document 02, §8.
unfoldable pub double_root : Float → Float → Roots
double_root root computed = if lt computed plus_zero then Lifted root else Double root

-- the roots where the discriminant as computed is in the band or above it
unfoldable pub quadratic_pair : Float → Float → Float → Traced Roots
quadratic_pair b c computed =
    -- let discriminant = discriminant.max(0.0);
    let discriminant = max computed plus_zero in
    if eq discriminant plus_zero then (do
      -- Some([-0.5 * b; 2])
      root ← ⊝ ! half ⊗ ! b
      pure (double_root root computed))
    else do
      -- let q = -0.5 * (b + discriminant.sqrt().copysign(b));
      root ← √ ! discriminant
      q ← ⊝ ! half ⊗ (! b ⊕ ! (copysign root b))
      if eq q plus_zero then pure (Two plus_zero plus_zero)
          else do
            -- Some([q, c / q])
            other ← ! c ⊘ ! q
            pure (Two q other)

unfoldable pub quadratic_real_monic_computed : Float → Float → Float → Traced Roots
quadratic_real_monic_computed b c cScale =
    if not (finite b) || not (finite c) then pure not_finite
    else do
      discriminant ← discriminant_of b c
      tolerance ← band_of b cScale
      if lt discriminant (neg tolerance) || not (finite discriminant) then pure no_real_roots
          else quadratic_pair b c discriminant

unfoldable pub quadratic_real_monic : Float → Float → Traced Roots
quadratic_real_monic b c = quadratic_real_monic_computed b c (abs c)
