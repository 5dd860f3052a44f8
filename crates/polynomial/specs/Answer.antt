-- What the answers of the root finders stand for, and what is made of them. An answer, `Roots`,
-- holds a quadratic's pair of roots, told apart by the discriminant, one root of a cubic, or the
-- number of a refusal.
use Rattle.std.specs.Prelude.{ℕ, true, false, List, [], ◌∷◌, Float, Option, Some, None}
use Rattle.ieee754.specs.Traced.{Traced}
use Rattle.polynomial.specs.Types.{Roots, Two, Double, Lifted, One, Refused, RootPair}

-- ---- the refusals of the root finders

-- a coefficient is not finite
abbrev pub not_finite : Roots
not_finite = Refused 4

-- the quadratic's discriminant is not finite, or is below minus the band
abbrev pub no_real_roots : Roots
no_real_roots = Refused 5

-- `polished_cubic_root` gives no root
abbrev pub no_root : Roots
no_root = Refused 6

-- ---- an answer's number, 0 where nothing is refused, and its values in their order
abbrev pub number : Roots → ℕ
number (Two x y) = 0
number (Double x) = 0
number (Lifted x) = 0
number (One x) = 0
number (Refused n) = n

abbrev pub values : Roots → List Float
values (Two x y) = x ∷ y ∷ []
values (Double x) = x ∷ x ∷ []
values (Lifted x) = x ∷ x ∷ []
values (One x) = x ∷ []
values (Refused n) = []

-- ---- the kind of a quadratic's pair: 0 for two roots, 1 for a discriminant of zero, 2 for one
--      that was lifted to zero. Any other answer has 0.
abbrev pub kind : Roots → ℕ
kind (Two x y) = 0
kind (Double x) = 1
kind (Lifted x) = 2
kind (One x) = 0
kind (Refused n) = 0

-- ---- the pair, and whether it was lifted
abbrev pub pair_of : Roots → Option RootPair
pair_of (Two x y) = Some (record { first = x; second = y; lifted = false })
pair_of (Double x) = Some (record { first = x; second = x; lifted = false })
pair_of (Lifted x) = Some (record { first = x; second = x; lifted = true })
pair_of (One x) = None
pair_of (Refused n) = None

-- ---- what follows the cubic's: what `k` makes of the one root, and `none` for any other answer
abbrev pub with_root : {A : Type 0} → Roots → Traced A → (Float → Traced A) → Traced A
with_root (Two x y) none k = none
with_root (Double x) none k = none
with_root (Lifted x) none k = none
with_root (One x) none k = k x
with_root (Refused n) none k = none
