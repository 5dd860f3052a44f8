-- A pose that the gate lets by has twelve finite numbers. Its translation is tested; and it is a
-- difference that takes in every entry of the rotation, none of which can then be a NaN or an
-- infinity. Assumes nothing.
use mathlib.Core.Bool.{not}
use lib.Dec.{T}
use mir.Facts.{T_not-not}
use Rattle.ieee754.specs.Traced.{Traced, pure, with_some}
use Rattle.ieee754.proofs.Tests.{either_way}
use Rattle.linalg.specs.Vectors.{all_finite, vec_sub}
use Rattle.linalg.specs.Matrices.{mat_vec, mat_finite}
use Rattle.linalg.proofs.Finite.{rotation-finite}
use Rattle.p3p_common.specs.Types.{Vector3, Matrix3, Pose, P3pInput, Option, Some, None}
use Rattle.p3p_common.specs.Types.{Gated, Passed, Projected, Dropped}
use Rattle.p3p_common.specs.NearOrthonormal.{has_near_orthonormal_columns}
use Rattle.p3p_common.specs.ProjectToRotation.{project_to_rotation}
use Rattle.frames.specs.Poses.{camera_point}
use Rattle.p3p_common.specs.ProjectedPose.{projected_pose_fits_minimal_sample}
use Rattle.p3p_common.specs.Gate.{if_valid, keep_point0, projected_gate, gate}
use Rattle.p3p_common.specs.PoseSlots.{FinitePose}

abbrev pub FiniteGated : Gated → Type 0
FiniteGated (Passed p) = FinitePose p
FiniteGated (Projected p) = FinitePose p
FiniteGated Dropped = Unit {0}

if_valid-finite : (gated : Pose → Gated)
    → ((p : Pose) → FinitePose p → FiniteGated (gated p))
    → (p : Pose)
    → (T (all_finite p.translation) → T (mat_finite p.rotation))
    → FiniteGated (if_valid gated p)
unfolding if_valid
if_valid-finite gated lets p whole =
    either_way FiniteGated (not (all_finite p.translation)) (λ _. tt) (λ h.
    let f = T_not-not (all_finite p.translation) h in
    lets p (record { rotation = whole f; translation = f }))

keep_point0-finite : (input : P3pInput) (raw : Matrix3) (t : Vector3) (r : Matrix3)
    → FiniteGated (keep_point0 input raw t r).value
unfolding keep_point0
keep_point0-finite input raw t r =
    let camera0 =
    (camera_point (record { rotation = raw; translation = t }) input.world.p0).value in
    let pose : Pose = record {
      rotation = r;
      translation = (vec_sub camera0 (mat_vec r input.world.p0).value).value;
    } in
    either_way FiniteGated (not (projected_pose_fits_minimal_sample input pose).value) (λ _. tt)
    (λ _. if_valid-finite Projected (λ p h. h) pose (rotation-finite camera0 r input.world.p0))

projected_gate-finite : (input : P3pInput) (raw : Matrix3) (t : Vector3)
    → FiniteGated (projected_gate input raw t).value
unfolding projected_gate
projected_gate-finite input raw t = go (project_to_rotation raw).value
  where
    go : (p : Option Matrix3)
        → FiniteGated (with_some p (pure Dropped) (keep_point0 input raw t)).value
    go None = tt
    go (Some r) = keep_point0-finite input raw t r

pub gate-finite : (input : P3pInput) (raw : Matrix3) (t : Vector3)
    → (T (all_finite t) → T (mat_finite raw))
    → FiniteGated (gate input raw t).value
unfolding gate
gate-finite input raw t whole =
    let pose : Pose = record { rotation = raw; translation = t } in
    either_way (λ (m : Traced Gated). FiniteGated m.value) (has_near_orthonormal_columns raw).value
    (λ _. if_valid-finite Passed (λ p h. h) pose whole)
    (λ _. projected_gate-finite input raw t)
