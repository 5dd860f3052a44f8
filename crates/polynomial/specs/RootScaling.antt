-- What the scaling rule says of the answers of the root finders: the same refusal in both runs, or
-- roots of one kind at the degree n.
use Rattle.std.specs.Prelude.{ℕ, ℤ, Bool, Float}
use Rattle.ieee754.specs.Scaling.{At}
use Rattle.polynomial.specs.Types.{Roots, Two, Double, Lifted, One, Refused, RootPair}

pub data AtRoots (k n : ℤ) : Roots → Roots → Type 0 where
  two_at : {x x' y y' : Float} → At k n x x' → At k n y y' → AtRoots k n (Two x y) (Two x' y')
  double-at : {x x' : Float} → At k n x x' → AtRoots k n (Double x) (Double x')
  lifted-at : {x x' : Float} → At k n x x' → AtRoots k n (Lifted x) (Lifted x')
  one_at : {x x' : Float} → At k n x x' → AtRoots k n (One x) (One x')
  refused-at : (c : ℕ) → AtRoots k n (Refused c) (Refused c)

-- and of pairs: both are lifted, or neither
pub data AtPair (k n : ℤ) : RootPair → RootPair → Type 0 where
  pair-at : {first first' second second' : Float} (lifted : Bool)
      → At k n first first'
      → At k n second second'
      → AtPair k n
      (record { first = first; second = second; lifted = lifted })
      (record { first = first'; second = second'; lifted = lifted })
