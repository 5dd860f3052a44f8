-- What follows a root finder where a `match` has ruled the one root out (`no-root`). Assumes
-- nothing.
use mathlib.Core.Path.{◌≡◌, refl}
use lib.Ieee.{Float}
use Rattle.ieee754.specs.Traced.{Traced}
use Rattle.polynomial.specs.Answer.{with_root}
use Rattle.polynomial.specs.Types.{Roots, Two, Double, Lifted, One, Refused}

pub no-root : {A : Type 0} (none : Traced A) (k : Float → Traced A) (r : Roots)
    → ((x : Float) → r ≡ One x → ⊥)
    → none.value ≡ (with_root r none k).value
no-root none k (Two x y) h = refl
no-root none k (Double x) h = refl
no-root none k (Lifted x) h = refl
no-root none k (One x) h = absurd (h x refl)
no-root none k (Refused n) h = refl
