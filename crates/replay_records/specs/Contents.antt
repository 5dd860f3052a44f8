-- What stands in a record of stored answers, by its place in bytes: numbers, and doubles by their
-- bit patterns. A vector stands by x, y, z, a matrix by its columns, a pose by its rotation and
-- translation: the layout of specs/Lent of `frames`, by bytes. Every pattern of a NaN is read as
-- the one NaN.
use Rattle.std.specs.Prelude.{ℕ, ◌+◌, min, List, [], ◌∷◌, Float}
use Rattle.std.specs.Float.{binary64}
use Rattle.std.specs.Float.Ieee.{of_bits}
use Rattle.linalg.specs.Vectors.{vector}
use Rattle.linalg.specs.Matrices.{from_columns}
use Rattle.frames.specs.Points.{points, rays}
use Rattle.replay_words.specs.Words.{word_at}
use Rattle.replay_records.specs.Types.{Vector3, Matrix3, World, Bearings, Pose}
use Rattle.replay_records.specs.Types.{SquaredEdges, Cosines}

-- a word is read at any place: past the end of the record it is 0
abbrev pub anywhere : ℕ
anywhere = 0xffff_ffff_ffff_ffff

unfoldable pub double_at : List ℕ → ℕ → Float
double_at s at = of_bits binary64 (word_at s at)

-- a word as a count of 32 bits, the largest count for a word beyond it
abbrev pub narrow : ℕ → ℕ
narrow w = min w 0xffff_ffff

unfoldable pub vector_at : List ℕ → ℕ → Vector3
vector_at s at = vector (double_at s at) (double_at s (at + 8)) (double_at s (at + 16))

unfoldable pub matrix_at : List ℕ → ℕ → Matrix3
matrix_at s at = from_columns (vector_at s at) (vector_at s (at + 24)) (vector_at s (at + 48))

unfoldable pub world_at : List ℕ → ℕ → World
world_at s at = points (vector_at s at) (vector_at s (at + 24)) (vector_at s (at + 48))

unfoldable pub bearings_at : List ℕ → ℕ → Bearings
bearings_at s at = rays (vector_at s at) (vector_at s (at + 24)) (vector_at s (at + 48))

unfoldable pub pose_at : List ℕ → ℕ → Pose
pose_at s at = record { rotation = matrix_at s at; translation = vector_at s (at + 72) }

-- four poses, of twelve words each
unfoldable pub poses_at : List ℕ → ℕ → List Pose
poses_at s at =
    pose_at s at ∷ pose_at s (at + 96) ∷ pose_at s (at + 192) ∷ pose_at s (at + 288) ∷ []

unfoldable pub squares_at : List ℕ → ℕ → SquaredEdges
squares_at s at = record {
  a01 = double_at s at;
  a02 = double_at s (at + 8);
  a12 = double_at s (at + 16);
}

unfoldable pub cosines_at : List ℕ → ℕ → Cosines
cosines_at s at = record {
  m01 = double_at s at;
  m02 = double_at s (at + 8);
  m12 = double_at s (at + 16);
}
