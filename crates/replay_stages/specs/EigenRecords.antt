-- Records of the eigenvectors: the matrix, for one vector its eigenvalue too, then whether there
-- are any, the vectors, and for the whole system the values and whether the pair of them was
-- lifted. Whether a record has the answer of the definition.
use Rattle.std.specs.Prelude.{ℕ, Bool, ◌&&◌, List}
use Rattle.eigen.specs.Eigenpairs.{pairs_of}
use Rattle.eigen.specs.KnownZero.{eig_with_known_zero}
use Rattle.eigen.specs.RowCrosses.{eigenvector_from_row_crosses}
use Rattle.replay_records.specs.Contents.{double_at, matrix_at}
use Rattle.replay_records.specs.Agreement.{number_agrees, flag, double_agrees, vector_agrees}
use Rattle.replay_records.specs.Agreement.{matrix_agrees, option_agrees}
use Rattle.replay_stages.specs.Types.{Eigenpairs, Eigensystem, Option, Some, None}

-- ---- the eigenvectors by columns, and the eigenvalues
abbrev pub system_agrees : Option Eigensystem → List ℕ → Bool
system_agrees (Some system) s =
    number_agrees 1 s 72
    && matrix_agrees system.vectors s 80
    && vector_agrees system.values s 152
    && number_agrees (flag system.lifted) s 176
system_agrees None s = number_agrees 0 s 72

unfoldable pub system_holds : List ℕ → Bool
system_holds s = system_agrees (eig_with_known_zero (matrix_at s 0)).value s

-- ---- the two pairs that the solve reads of a system, in the system's record
abbrev pub pairs_agree : Option Eigenpairs → List ℕ → Bool
pairs_agree (Some pairs) s =
    number_agrees 1 s 72
    && vector_agrees pairs.column0 s 80
    && vector_agrees pairs.column1 s 104
    && double_agrees pairs.values.first s 152
    && double_agrees pairs.values.second s 160
    && number_agrees (flag pairs.values.lifted) s 176
pairs_agree None s = number_agrees 0 s 72

unfoldable pub pairs_hold : List ℕ → Bool
pairs_hold s = pairs_agree (pairs_of (eig_with_known_zero (matrix_at s 0)).value) s

-- ---- one eigenvector
unfoldable pub row_crosses_hold : List ℕ → Bool
row_crosses_hold s =
    let found = (eigenvector_from_row_crosses (matrix_at s 0) (double_at s 72)).value in
    option_agrees vector_agrees found s 80
