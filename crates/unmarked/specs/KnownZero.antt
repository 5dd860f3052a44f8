-- `eig_with_known_zero` of lambdatwist.rs: the eigenvectors, by columns, and the eigenvalues of a
-- symmetric matrix of which zero is an eigenvalue. Each step that stops ends it. Without a mark.
use Rattle.std.specs.Prelude.{not, Float, if◌then◌else◌}
use Rattle.ieee754.specs.Literal.{plus_zero}
use Rattle.ieee754.specs.Traced.{Traced, pure, with_some, ◌>>=◌, ◌⊗◌, !◌}
use Rattle.linalg.specs.Vectors.{vector}
use Rattle.linalg.specs.Matrices.{from_columns, mat_finite}
use Rattle.eigen.specs.ZeroVector.{zero_vector}
use Rattle.eigen.specs.EigenvectorOf.{precompute, eigenvector_of}
use Rattle.unmarked.specs.EigenPair.{with_eigenvalues, eigenvalue_pair}
use Rattle.unmarked.specs.Types.{Vector3, Matrix3, Eigensystem, Found, NotFound}

-- ---- what follows a system: what `k` makes of its eigenvectors and eigenvalues, and `none` where
--      there is none
abbrev pub with_system : {A : Type 0}
    → Eigensystem
    → Traced A
    → (Matrix3 → Vector3 → Traced A)
    → Traced A
with_system (Found eigenvectors eigenvalues) none k = k eigenvectors eigenvalues
with_system NotFound none k = none

-- Some((
--     Matrix3::from_columns(&[eigenvector(first_value)?, eigenvector(second_value)?, zero_vector]),
--     Vector3::new(first_value, second_value, 0.0)))
unfoldable pub system_of_pair : Matrix3 → Vector3 → Float → Float → Float → Traced Eigensystem
system_of_pair m zero off_diagonal_squared first_value second_value = do
  p ← precompute m off_diagonal_squared
  first ← eigenvector_of m p first_value
  with_some first (pure NotFound) (λ column0. do
    second ← eigenvector_of m p second_value
    with_some second (pure NotFound) (λ column1. do
      let eigenvalues : Vector3 = vector first_value second_value plus_zero
      pure (Found (from_columns column0 column1 zero) eigenvalues)))

unfoldable pub eig_with_known_zero : Matrix3 → Traced Eigensystem
eig_with_known_zero m =
    if not (mat_finite m) then pure NotFound
    else do
      known ← zero_vector m
      with_some known (pure NotFound) (λ zero. do
        -- let off_diagonal_squared = matrix[(0, 1)] * matrix[(0, 1)];
        off_diagonal_squared ← ! m.m01 ⊗ ! m.m01
        pair ← eigenvalue_pair m off_diagonal_squared
        with_eigenvalues pair (pure NotFound) (system_of_pair m zero off_diagonal_squared))
