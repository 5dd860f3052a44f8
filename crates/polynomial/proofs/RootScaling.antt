-- What follows a root finder scales: from answers at the degree n, with what is made of the one
-- root, and of an answer without it, in a relation R of the two runs (`with_root-scales`); a
-- quadratic's pairs are at the degree n too (`pair_of-at`). Assumes nothing.
use mathlib.Core.Bool.{true, false}
use lib.IntN.{ℤ}
use lib.Ieee.{Float}
use Rattle.ieee754.specs.Traced.{Traced}
use Rattle.ieee754.specs.Scaling.{Both, At, AtOption, some-at, none-at}
use Rattle.polynomial.specs.Answer.{pair_of, with_root}
use Rattle.polynomial.specs.RootScaling.{AtRoots, two_at, double-at, lifted-at}
use Rattle.polynomial.specs.RootScaling.{one_at, refused-at, AtPair, pair-at}
use Rattle.polynomial.specs.Types.{Roots}

module _ {k n : ℤ} where
  pub with_root-scales : {A : Type 0} {R : A → A → Type 0} {none none' : Traced A} {r r' : Roots}
      {f f' : Float → Traced A}
      → AtRoots k n r r'
      → Both R none none'
      → ((x x' : Float) → At k n x x' → Both R (f x) (f' x'))
      → Both R (with_root r none f) (with_root r' none' f')
  with_root-scales (two_at x y) none next = none
  with_root-scales (double-at x) none next = none
  with_root-scales (lifted-at x) none next = none
  with_root-scales (one_at {x} {x'} h) none next = next x x' h
  with_root-scales (refused-at c) none next = none

  pub pair_of-at : {r r' : Roots}
      → AtRoots k n r r'
      → AtOption (AtPair k n) (pair_of r) (pair_of r')
  pair_of-at (two_at x y) = some-at (pair-at false x y)
  pair_of-at (double-at x) = some-at (pair-at false x x)
  pair_of-at (lifted-at x) = some-at (pair-at true x x)
  pair_of-at (one_at x) = none-at
  pair_of-at (refused-at c) = none-at
