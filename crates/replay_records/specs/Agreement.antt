-- Whether a value is the one that stands at a place of a record, bit for bit: every word is equal
-- to the number, or to the bit pattern of the double, that it stands for. A NaN has the one pattern
-- 7ff8000000000000.
use Rattle.std.specs.Prelude.{ℕ, ◌+◌, Bool, true, false, ◌&&◌, List, eqb, Float, Option, Some, None}
use Rattle.std.specs.Float.{binary64}
use Rattle.std.specs.Float.Ieee.{to_bits}
use Rattle.linalg.specs.Matrices.{column0, column1, column2}
use Rattle.replay_words.specs.Words.{word_at}
use Rattle.replay_records.specs.Types.{Vector3, Matrix3, Pose, World, SquaredEdges}

unfoldable pub number_agrees : ℕ → List ℕ → ℕ → Bool
number_agrees n s at = eqb n (word_at s at)

-- a bool stands as 0 or 1
abbrev pub flag : Bool → ℕ
flag true = 1
flag false = 0

unfoldable pub double_agrees : Float → List ℕ → ℕ → Bool
double_agrees x s at = eqb (to_bits binary64 x) (word_at s at)

unfoldable pub vector_agrees : Vector3 → List ℕ → ℕ → Bool
vector_agrees v s at =
    double_agrees v.x s at && double_agrees v.y s (at + 8) && double_agrees v.z s (at + 16)

unfoldable pub matrix_agrees : Matrix3 → List ℕ → ℕ → Bool
matrix_agrees m s at =
    vector_agrees (column0 m) s at
    && vector_agrees (column1 m) s (at + 24)
    && vector_agrees (column2 m) s (at + 48)

unfoldable pub pose_agrees : Pose → List ℕ → ℕ → Bool
pose_agrees pose s at =
    matrix_agrees pose.rotation s at && vector_agrees pose.translation s (at + 72)

unfoldable pub world_agrees : World → List ℕ → ℕ → Bool
world_agrees world s at =
    vector_agrees world.p0 s at
    && vector_agrees world.p1 s (at + 24)
    && vector_agrees world.p2 s (at + 48)

unfoldable pub squares_agree : SquaredEdges → List ℕ → ℕ → Bool
squares_agree edges s at =
    double_agrees edges.a01 s at
    && double_agrees edges.a02 s (at + 8)
    && double_agrees edges.a12 s (at + 16)

-- a value that may be missing: a word that says whether it is there, before it
abbrev pub option_agrees : {A : Type 0} → (A → List ℕ → ℕ → Bool) → Option A → List ℕ → ℕ → Bool
option_agrees agrees (Some value) s at = number_agrees 1 s at && agrees value s (at + 8)
option_agrees agrees None s at = number_agrees 0 s at
