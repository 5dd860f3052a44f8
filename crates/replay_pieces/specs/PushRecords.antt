-- Records of a pushed pose: world points, bearings, the matrix, the translation, the updates and
-- the count; then the count after it, and the updates and the pose that were pushed. Whether a
-- record has the answer of the definition, run on a list whose slots are marked: slot i, from 0,
-- holds i + 1 as the updates and as the bit pattern of each entry of its pose, and is not lifted;
-- what is pushed is.
use Rattle.std.specs.Prelude.{ℕ, Bool, true, false, not, ◌&&◌, List, [], ◌∷◌, eqb, ltb, get_or, if◌then◌else◌}
use Rattle.std.specs.Float.{binary64}
use Rattle.std.specs.Float.Ieee.{of_bits, to_bits}
use Rattle.linalg.specs.Vectors.{vector}
use Rattle.linalg.specs.Matrices.{from_columns, column0, column1, column2}
use Rattle.frames.specs.Poses.{zero_pose}
use Rattle.p3p_common.specs.PushPose.{push_pose}
use Rattle.replay_words.specs.Words.{word_at}
use Rattle.replay_records.specs.Contents.{narrow, vector_at, matrix_at, world_at, bearings_at}
use Rattle.replay_records.specs.Agreement.{number_agrees, pose_agrees}
use Rattle.replay_pieces.specs.Types.{Vector3, Pose, P3pInput, Solutions}

-- ---- the marks
unfoldable pub mark_vector : ℕ → Vector3
mark_vector bits = vector (of_bits binary64 bits) (of_bits binary64 bits) (of_bits binary64 bits)

unfoldable pub marker : ℕ → Pose
marker bits = record {
  rotation = from_columns (mark_vector bits) (mark_vector bits) (mark_vector bits);
  translation = mark_vector bits;
}

unfoldable pub marked : ℕ → Solutions
marked count = record {
  count = count;
  poses = marker 1 ∷ marker 2 ∷ marker 3 ∷ marker 4 ∷ [];
  updates = 1 ∷ 2 ∷ 3 ∷ 4 ∷ [];
  lifted = false ∷ false ∷ false ∷ false ∷ [];
}

unfoldable pub vector_is : Vector3 → ℕ → Bool
vector_is v bits =
    eqb (to_bits binary64 v.x) bits
    && eqb (to_bits binary64 v.y) bits
    && eqb (to_bits binary64 v.z) bits

unfoldable pub is_marker : Pose → ℕ → Bool
is_marker pose bits =
    vector_is (column0 pose.rotation) bits
    && vector_is (column1 pose.rotation) bits
    && vector_is (column2 pose.rotation) bits
    && vector_is pose.translation bits

-- ---- a slot after the push, by its mark: what was pushed stands in the one that the count now
--      ends with, where there are more than before, and every other slot is as it was
unfoldable pub slot_holds : List ℕ → ℕ → Pose → ℕ → Bool → Bool
slot_holds s mark pose updates lifted =
    if eqb (word_at s 256) mark && ltb (word_at s 248) mark
    then lifted && number_agrees updates s 264 && pose_agrees pose s 272
    else (not lifted && eqb updates mark && is_marker pose mark)

unfoldable pub slots_hold : List ℕ → List Pose → List ℕ → List Bool → Bool
slots_hold s poses updates lifted =
    slot_holds s 1 (get_or poses 0 zero_pose) (get_or updates 0 0) (get_or lifted 0 false)
    && slot_holds s 2 (get_or poses 1 zero_pose) (get_or updates 1 0) (get_or lifted 1 false)
    && slot_holds s 3 (get_or poses 2 zero_pose) (get_or updates 2 0) (get_or lifted 2 false)
    && slot_holds s 4 (get_or poses 3 zero_pose) (get_or updates 3 0) (get_or lifted 3 false)

unfoldable pub solutions_hold : Solutions → List ℕ → Bool
solutions_hold after s =
    number_agrees after.count s 256
    && slots_hold s after.poses after.updates after.lifted

unfoldable pub push_holds : List ℕ → Bool
push_holds s =
    let input : P3pInput = record { world = world_at s 0; bearings = bearings_at s 72 } in
    let before = marked (narrow (word_at s 248)) in
    let updates = narrow (word_at s 240) in
    solutions_hold (push_pose input before (matrix_at s 144) (vector_at s 216) updates true).value s
