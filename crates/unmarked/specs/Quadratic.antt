-- `quadratic_real_monic` and `quadratic_real_monic_computed` of polynomial.rs: the real roots of
-- x^2 + b*x + c, and what follows them. Document 01, module 2. A pair is not told apart.
use Rattle.std.specs.Prelude.{not, ◌||◌, Float, if◌then◌else◌}
use Rattle.std.specs.Float.Ieee.{neg, lt, eq}
use Rattle.std.specs.Float.Ieee.Scale.{finite}
use Rattle.ieee754.specs.Literal.{plus_zero, half}
use Rattle.ieee754.specs.Magnitude.{abs}
use Rattle.ieee754.specs.CopySign.{copysign}
use Rattle.ieee754.specs.Maximum.{max}
use Rattle.ieee754.specs.Traced.{Traced, pure, ◌>>=◌, !◌, ⊝◌, √◌, ◌⊗◌, ◌⊘◌, ◌⊕◌}
use Rattle.polynomial.specs.Quadratic.{discriminant_of, band_of}
use Rattle.unmarked.specs.Types.{Roots, Two, One, Refused}

-- ---- the refusals of the quadratic

-- a coefficient is not finite
abbrev pub not_finite : Roots
not_finite = Refused 4

-- the quadratic's discriminant is not finite, or is below minus the band
abbrev pub no_real_roots : Roots
no_real_roots = Refused 5

-- ---- what follows a root finder: what `k` makes of the two roots in their order, and `none` for
--      any other answer
abbrev pub with_pair : {A : Type 0} → Roots → Traced A → (Float → Float → Traced A) → Traced A
with_pair (Two x y) none k = k x y
with_pair (One x) none k = none
with_pair (Refused n) none k = none

-- ---- the root finder

-- the roots where the discriminant is in the band or above it; the caller has cut a negative one to
-- zero
unfoldable pub quadratic_pair : Float → Float → Float → Traced Roots
quadratic_pair b c discriminant =
    if eq discriminant plus_zero then (do
      -- Some([-0.5 * b; 2])
      root ← ⊝ ! half ⊗ ! b
      pure (Two root root))
    else do
      -- let q = -0.5 * (b + discriminant.sqrt().copysign(b));
      root ← √ ! discriminant
      q ← ⊝ ! half ⊗ (! b ⊕ ! (copysign root b))
      if eq q plus_zero then pure (Two plus_zero plus_zero)
          else do
            -- Some([q, c / q])
            other ← ! c ⊘ ! q
            pure (Two q other)

unfoldable pub quadratic_real_monic_computed : Float → Float → Float → Traced Roots
quadratic_real_monic_computed b c cScale =
    if not (finite b) || not (finite c) then pure not_finite
    else do
      discriminant ← discriminant_of b c
      tolerance ← band_of b cScale
      if lt discriminant (neg tolerance) || not (finite discriminant) then pure no_real_roots
          else quadratic_pair b c (max discriminant plus_zero)

unfoldable pub quadratic_real_monic : Float → Float → Traced Roots
quadratic_real_monic b c = quadratic_real_monic_computed b c (abs c)
