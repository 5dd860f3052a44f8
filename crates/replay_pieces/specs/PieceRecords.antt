-- Records of the functions that the three-point solvers share: the arguments, then the answer,
-- before one that may be missing a word that says whether it is there. Whether a record has the
-- answer of the function's definition, and how many words it is long.
use Rattle.std.specs.Prelude.{ℕ, ◌+◌, Bool, ◌&&◌, List}
use Rattle.p3p_common.specs.NearOrthonormal.{has_near_orthonormal_columns}
use Rattle.p3p_common.specs.ProjectToRotation.{project_to_rotation}
use Rattle.p3p_common.specs.RayFits.{ray_fits}
use Rattle.p3p_common.specs.RotationFromEdges.{rotation_from_edges}
use Rattle.p3p_common.specs.WorldBasisInverse.{world_basis_inverse}
use Rattle.refinement.specs.RefineDepths.{refine_depths}
use Rattle.replay_words.specs.Words.{word_at}
use Rattle.replay_records.specs.Contents.{narrow, vector_at, matrix_at, squares_at, cosines_at}
use Rattle.replay_records.specs.Agreement.{number_agrees, flag, vector_agrees, matrix_agrees}
use Rattle.replay_records.specs.Agreement.{option_agrees}
use Rattle.replay_pieces.specs.PushRecords.{push_holds}
use Rattle.replay_pieces.specs.Types.{Refined, Piece, Refine, Ray, Near, Project, WorldBasis, Edges}
use Rattle.replay_pieces.specs.Types.{Push}

-- ---- depths, squared edges, cosines and the limit; the updates and the depths
unfoldable pub refined_agrees : Refined → List ℕ → Bool
refined_agrees refined s =
    number_agrees refined.updates s 80 && vector_agrees refined.depths s 88

unfoldable pub refine_holds : List ℕ → Bool
refine_holds s =
    let limit = narrow (word_at s 72) in
    refined_agrees (refine_depths (vector_at s 0) (squares_at s 24) (cosines_at s 48) limit).value s

-- ---- the camera point and the bearing; whether they fit
unfoldable pub ray_holds : List ℕ → Bool
ray_holds s = number_agrees (flag (ray_fits (vector_at s 0) (vector_at s 24)).value) s 48

-- ---- the matrix; whether it is near a rotation
unfoldable pub near_holds : List ℕ → Bool
near_holds s = number_agrees (flag (has_near_orthonormal_columns (matrix_at s 0)).value) s 72

-- ---- the matrix; whether there is a rotation, and the rotation
unfoldable pub project_holds : List ℕ → Bool
project_holds s = option_agrees matrix_agrees (project_to_rotation (matrix_at s 0)).value s 72

-- ---- two edges; whether there is an inverse, and the inverse
unfoldable pub basis_holds : List ℕ → Bool
basis_holds s =
    option_agrees matrix_agrees (world_basis_inverse (vector_at s 0) (vector_at s 24)).value s 48

-- ---- two edges and the inverse; the rotation
unfoldable pub edges_hold : List ℕ → Bool
edges_hold s =
    matrix_agrees (rotation_from_edges (vector_at s 0) (vector_at s 24) (matrix_at s 48)).value s 120

-- ---- by the function
unfoldable pub piece_holds : Piece → List ℕ → Bool
piece_holds Refine s = refine_holds s
piece_holds Ray s = ray_holds s
piece_holds Near s = near_holds s
piece_holds Project s = project_holds s
piece_holds WorldBasis s = basis_holds s
piece_holds Edges s = edges_hold s
piece_holds Push s = push_holds s

-- the words that are taken, and those that are given
abbrev pub piece_words : Piece → ℕ
piece_words Refine = (3 + 3 + 3 + 1) + (1 + 3)
piece_words Ray = (3 + 3) + 1
piece_words Near = 9 + 1
piece_words Project = 9 + (1 + 9)
piece_words WorldBasis = (3 + 3) + (1 + 9)
piece_words Edges = (3 + 3 + 9) + 9
piece_words Push = (9 + 9 + 9 + 3 + 1 + 1) + (1 + 1 + 12)
