-- The ratio of the eigenvalues is equal in the two runs: they are at one degree. Assumes nothing.
use mathlib.Core.Path.{◌≡◌, refl, ap}
use mathlib.Core.Bool.{Bool, not}
use lib.IntN.{ℤ, pos}
use lib.Ieee.{Float}
use Rattle.ieee754.specs.Literal.{sixty_four, epsilon}
use Rattle.ieee754.specs.Scaling.{Both, At}
use Rattle.ieee754_laws.proofs.Degrees.{same, null, at_zero, !◌, ⊝◌, √◌, ◌⊗◌, ◌⊘◌, pure, ◌>>=◌}
use Rattle.ieee754_laws.proofs.Degrees.{if◌then◌else◌, max-at, lt_same, finite-same}
use Rattle.depths.specs.RatioOf.{is_not_real, ratio_of}
use Rattle.depths.specs.Types.{Option, Some, None}

module _ {k : ℤ} where
  is_not_real-same : {x x' : Float}
      → At k (pos 0) x x'
      → Both {A = Bool} ◌≡◌ (is_not_real x) (is_not_real x')
  unfolding is_not_real
  is_not_real-same ratio_squared =
      if ap not (finite-same ratio_squared) then pure refl
      else (
      ⊝ ! same epsilon ⊗ ! same sixty_four >>= λ _ _ limit.
      pure (lt_same ratio_squared limit))

  pub ratio_of-same : {x x' y y' : Float}
      → At k (pos 2) x x'
      → At k (pos 2) y y'
      → Both {A = Option Float} ◌≡◌ (ratio_of x y) (ratio_of x' y')
  unfolding ratio_of
  ratio_of-same first second =
      ⊝ ! second ⊘ ! first >>= λ _ _ ratio_squared.
      is_not_real-same ratio_squared >>= λ _ _ not_real.
      if not_real then pure (refl {A = Option Float} {a = None})
      else (
      √◌ {n = pos 0} (! max-at ratio_squared null) >>= λ _ _ ratio.
      pure (ap Some (at_zero ratio)))
