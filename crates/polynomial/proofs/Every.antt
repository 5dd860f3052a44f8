-- `every` over two tables one after another, and over the rows that a function makes of a table's.
-- Assumes nothing.
use mathlib.Core.Bool.{Bool}
use mathlib.Core.List.{List, [], ◌∷◌, ◌++◌, map}
use lib.Dec.{T}
use lib.Ieee.Fits.{and_i, and_l, and_r}
use Rattle.polynomial.specs.Cases.{every}

module _ {A : Type 0} (holds : A → Bool) where
  pub every_append : (l m : List A)
      → T (every holds l)
      → T (every holds m)
      → T (every holds (l ++ m))
  unfolding every
  every_append [] m h g = g
  every_append (x ∷ l) m h g =
      let row = holds x in
      let rest = every holds l in
      and_i row (every holds (l ++ m)) (and_l row rest h) (every_append l m (and_r row rest h) g)

  pub every_map : {B : Type 0} (f : B → A) (l : List B)
      → T (every (λ (b : B). holds (f b)) l)
      → T (every holds (map f l))
  unfolding every
  every_map f [] h = h
  every_map {B = B} f (x ∷ l) h =
      let row = holds (f x) in
      let rest = every (λ (b : B). holds (f b)) l in
      and_i row (every holds (map f l)) (and_l row rest h) (every_map f l (and_r row rest h))
