-- A NaN as the condition of the first permutation is kept as best, since nothing compares greater,
-- and passes the limit, since it is not at most anything. No frame was found that reaches it, so it
-- is stated of the choice. Assumes nothing.
use mathlib.Core.Path.{◌≡◌, refl}
use mathlib.Core.Bool.{false}
use mathlib.Core.List.{List, [], ◌∷◌}
use lib.Ieee.{Float, nan, le, lt}
use Rattle.orderings.specs.Permutation.{better, best_of}

module _ {A : Type 0} (condition : A → Float) where
  better-nan : (best next : A) → condition best ≡ nan → better condition best next ≡ best
  unfolding better lt
  better-nan best next h = rw h

  pub nan-kept : (first : A) (rest : List A)
      → condition first ≡ nan
      → best_of condition first rest ≡ first
  unfolding best_of
  nan-kept first [] h = refl
  nan-kept first (next ∷ rest) h = rw (better-nan first next h) (nan-kept first rest h)

pub nan-passes : (limit : Float) → le nan limit ≡ false
unfolding le lt
nan-passes limit = refl
