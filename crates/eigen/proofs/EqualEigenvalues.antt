-- Eigenvalues that were lifted are equal (`lifted-equal`): the quadratic gives a lifted pair as one
-- root twice. Assumes nothing.
use Rattle.std.proofs.Common.{◌≡◌, not, ◌||◌, T, sym, refl}
use lib.Ieee.{Float, lt, eq}
use Rattle.ieee754.specs.Literal.{plus_zero}
use Rattle.ieee754.specs.Magnitude.{abs}
use Rattle.ieee754.specs.Traced.{Traced, pure, with_some, ◌⊗◌, !◌, ⊝◌}
use Rattle.ieee754.proofs.Tests.{either_way}
use Rattle.linalg.specs.Matrices.{trace, mat_finite}
use Rattle.polynomial.specs.Answer.{pair_of}
use Rattle.polynomial.specs.Quadratic.{quadratic_real_monic}
use Rattle.polynomial.specs.declared.Roots.{Roots}
use Rattle.polynomial.specs.declared.Roots.TheVariants as roots
use Rattle.eigen.specs.ZeroVector.{zero_vector}
use Rattle.eigen.specs.EigenPair.{pair_coefficient, nonzero_pair, by_magnitude, eigenvalue_pair}
use Rattle.eigen.specs.EigenvectorOf.{precompute, eigenvector_of}
use Rattle.eigen.specs.KnownZero.{system_of_pair, eig_with_known_zero}
use Rattle.eigen.specs.Types.{Option, Some, None, Vector3, Matrix3, RootPair, Eigensystem}

-- ---- the eigenvalues
abbrev EqualIn : RootPair → Type 0
EqualIn pair = T pair.lifted → pair.first ≡ pair.second

abbrev EqualPair : Option RootPair → Type 0
EqualPair (Some pair) = EqualIn pair
EqualPair None = Unit {0}

nonzero_pair-equal : (pair : RootPair) → EqualIn pair → EqualPair (nonzero_pair pair)
unfolding nonzero_pair
nonzero_pair-equal pair e =
    either_way EqualPair (eq pair.first plus_zero || eq pair.second plus_zero) (λ _. tt) (λ _. e)

by_magnitude-equal : (pair : RootPair) → EqualIn pair → EqualPair (by_magnitude pair)
unfolding by_magnitude
by_magnitude-equal pair e =
    either_way EqualPair (lt (abs pair.first) (abs pair.second))
    (λ _. nonzero_pair-equal _ (λ l. sym (e l)))
    (λ _. nonzero_pair-equal pair e)

ordered-equal : (r : Roots)
    → EqualPair (with_some (pair_of r) (pure None) (λ pair. pure (by_magnitude pair))).value
ordered-equal (roots.Two x y) = by_magnitude-equal _ (λ never. absurd never)
ordered-equal (roots.Double x) = by_magnitude-equal _ (λ _. refl)
ordered-equal (roots.Lifted x) = by_magnitude-equal _ (λ _. refl)
ordered-equal (roots.One x) = tt
ordered-equal (roots.Refused n) = tt

eigenvalue_pair-equal : (m : Matrix3) (s : Float) → EqualPair (eigenvalue_pair m s).value
unfolding eigenvalue_pair
eigenvalue_pair-equal m s =
    ordered-equal (quadratic_real_monic (⊝ trace m).value (pair_coefficient m s).value).value

-- ---- the system
abbrev pub EqualValues : Option Eigensystem → Type 0
EqualValues (Some system) = T system.lifted → system.values.x ≡ system.values.y
EqualValues None = Unit {0}

abbrev GivesEqual : Traced (Option Eigensystem) → Type 0
GivesEqual m = EqualValues m.value

after-vector : (v : Option Vector3) (f : Vector3 → Traced (Option Eigensystem))
    → ((u : Vector3) → GivesEqual (f u))
    → GivesEqual (with_some v (pure None) f)
after-vector (Some u) f h = h u
after-vector None f h = tt

system_of_pair-equal : (m : Matrix3) (zero : Vector3) (s : Float) (pair : RootPair)
    → EqualIn pair
    → GivesEqual (system_of_pair m zero s pair)
unfolding system_of_pair
system_of_pair-equal m zero s pair e =
    let p = (precompute m s).value in
    after-vector (eigenvector_of m p pair.first).value _ (λ column0.
    after-vector (eigenvector_of m p pair.second).value _ (λ column1. e))

after-pair : (m : Matrix3) (zero : Vector3) (s : Float) (pair : Option RootPair)
    → EqualPair pair
    → GivesEqual (with_some pair (pure None) (system_of_pair m zero s))
after-pair m zero s (Some pair) e = system_of_pair-equal m zero s pair e
after-pair m zero s None e = tt

pub lifted-equal : (m : Matrix3) → EqualValues (eig_with_known_zero m).value
unfolding eig_with_known_zero
lifted-equal m =
    let square = (! m.m01 ⊗ ! m.m01).value in
    either_way GivesEqual (not (mat_finite m)) (λ _. tt) (λ _.
    after-vector (zero_vector m).value _ (λ zero.
    after-pair m zero square (eigenvalue_pair m square).value (eigenvalue_pair-equal m square)))
