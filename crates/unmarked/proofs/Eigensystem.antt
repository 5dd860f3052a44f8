-- The eigensystem is the same where its eigenvalues are marked and where they are not. Assumes
-- nothing.
use Rattle.std.proofs.Common.{Bool, not, ◌||◌, refl}
use Rattle.std.specs.Prelude.{Option, Some, None}
use lib.Ieee.{Float, lt, eq}
use Rattle.ieee754.specs.Literal.{plus_zero}
use Rattle.ieee754.specs.Magnitude.{abs}
use Rattle.ieee754.specs.Traced as traced
use Rattle.ieee754.specs.Traced.{Traced, with_some, ◌⊗◌, !◌, ⊝◌}
use Rattle.linalg.specs.Vectors.{vector}
use Rattle.linalg.specs.Matrices.{trace, from_columns, mat_finite}
use Rattle.polynomial.specs.declared.pair.RootPair.{RootPair}
use Rattle.eigen.specs.ZeroVector.{zero_vector}
use Rattle.eigen.specs.EigenPair.{pair_coefficient, nonzero_pair, by_magnitude, eigenvalue_pair}
use Rattle.eigen.specs.EigenvectorOf.{precompute, eigenvector_of}
use Rattle.eigen.specs.KnownZero.{system_of_pair, eig_with_known_zero}
use Rattle.eigen.specs.declared.known_zero.Eigensystem.{Eigensystem}
use Rattle.unmarked.specs.EigenPair as before
use Rattle.unmarked.specs.KnownZero as before-system
use Rattle.unmarked.specs.Types as unmarked
use Rattle.unmarked.specs.Types.{Vector3, Matrix3}
use Rattle.unmarked.proofs.Forgets.{Forgets, choose, pure, if◌then◌else◌, ◌>>=◌, ◌>>≡◌, with_same}
use Rattle.unmarked.proofs.Quadratic.{with_pair-forgets, quadratic_real_monic-forgets}

pub data SameEigenvalues : Option RootPair → unmarked.Eigenvalues → Type 0 where
  pair : (x y : Float) (lifted : Bool)
      → SameEigenvalues (Some (record { first = x; second = y; lifted = lifted }))
      (unmarked.Pair x y)
  no-pair : SameEigenvalues None unmarked.NoPair

pub data SameSystem : Option Eigensystem → unmarked.Eigensystem → Type 0 where
  found : (m : Matrix3) (v : Vector3) (lifted : Bool)
      → SameSystem (Some (record { vectors = m; values = v; lifted = lifted }))
      (unmarked.Found m v)
  not_found : SameSystem None unmarked.NotFound

-- ---- what follows the eigenvalues and the system
module _ {A B : Type 0} {R : A → B → Type 0} {none : Traced A} {none' : Traced B} where
  with_eigenvalues-forgets : {e : Option RootPair} {e' : unmarked.Eigenvalues}
      {k' : Float → Float → Traced B} (k : RootPair → Traced A)
      → SameEigenvalues e e'
      → Forgets R none none'
      → ((x y : Float) (lifted : Bool)
      → Forgets R (k (record { first = x; second = y; lifted = lifted })) (k' x y))
      → Forgets R (with_some e none k) (before.with_eigenvalues e' none' k')
  with_eigenvalues-forgets k (pair x y lifted) none next = next x y lifted
  with_eigenvalues-forgets k no-pair none next = none

  pub with_system-forgets : {s : Option Eigensystem} {s' : unmarked.Eigensystem}
      {k' : Matrix3 → Vector3 → Traced B} (k : Eigensystem → Traced A)
      → SameSystem s s'
      → Forgets R none none'
      → ((m : Matrix3) (v : Vector3) (lifted : Bool)
      → Forgets R (k (record { vectors = m; values = v; lifted = lifted })) (k' m v))
      → Forgets R (with_some s none k) (before-system.with_system s' none' k')
  with_system-forgets k (found m v lifted) none next = next m v lifted
  with_system-forgets k not_found none next = none

-- ---- the eigenvalues
abbrev root_pair : Float → Float → Bool → RootPair
root_pair x y lifted = record { first = x; second = y; lifted = lifted }

nonzero_pair-forgets : (x y : Float) (lifted : Bool)
    → SameEigenvalues (nonzero_pair (root_pair x y lifted)) (before.nonzero_pair x y)
unfolding nonzero_pair before.nonzero_pair
nonzero_pair-forgets x y lifted =
    choose SameEigenvalues (refl {a = eq x plus_zero || eq y plus_zero}) no-pair (pair x y lifted)

by_magnitude-forgets : (x y : Float) (lifted : Bool)
    → SameEigenvalues (by_magnitude (root_pair x y lifted)) (before.by_magnitude x y)
unfolding by_magnitude before.by_magnitude
by_magnitude-forgets x y lifted =
    choose SameEigenvalues (refl {a = lt (abs x) (abs y)}) (nonzero_pair-forgets y x lifted)
    (nonzero_pair-forgets x y lifted)

module _ (m : Matrix3) where
  eigenvalue_pair-forgets : (square : Float)
      → Forgets SameEigenvalues (eigenvalue_pair m square) (before.eigenvalue_pair m square)
  unfolding eigenvalue_pair before.eigenvalue_pair
  eigenvalue_pair-forgets square =
      ⊝ trace m >>≡ λ trace_coefficient.
      pair_coefficient m square >>≡ λ pair_term.
      quadratic_real_monic-forgets trace_coefficient pair_term >>= λ _ _ roots.
      with_pair-forgets (λ p. traced.pure (by_magnitude p)) roots (pure no-pair)
      (λ x y lifted. pure (by_magnitude-forgets x y lifted))

  -- ---- the system
  system_of_pair-forgets : (zero : Vector3) (square x y : Float) (lifted : Bool)
      → Forgets SameSystem
      (system_of_pair m zero square (root_pair x y lifted))
      (before-system.system_of_pair m zero square x y)
  unfolding system_of_pair before-system.system_of_pair
  system_of_pair-forgets zero square x y lifted =
      precompute m square >>≡ λ p.
      eigenvector_of m p x >>≡ λ first.
      with_same first (pure not_found) (λ column0.
      eigenvector_of m p y >>≡ λ second.
      with_same second (pure not_found) (λ column1.
      pure (found (from_columns column0 column1 zero) (vector x y plus_zero) lifted)))

  pub eig_with_known_zero-forgets
      : Forgets SameSystem (eig_with_known_zero m) (before-system.eig_with_known_zero m)
  unfolding eig_with_known_zero before-system.eig_with_known_zero
  eig_with_known_zero-forgets =
      if not (mat_finite m) then pure not_found
      else (
      zero_vector m >>≡ λ known.
      with_same known (pure not_found) (λ zero.
      ! m.m01 ⊗ ! m.m01 >>≡ λ square.
      eigenvalue_pair-forgets square >>= λ _ _ values.
      with_eigenvalues-forgets (system_of_pair m zero square) values (pure not_found)
      (system_of_pair-forgets zero square)))
