-- The gate decides the same in the two runs, and a pose that it lets by has the same rotation and
-- its translation at degree 1. Assumes nothing.
use mathlib.Core.Path.{refl, ap}
use mathlib.Core.Bool.{not}
use lib.IntN.{ℤ, pos}
use Rattle.ieee754.specs.Scaling.{Both}
use Rattle.ieee754_laws.proofs.Degrees.{pure, if◌then◌else◌, ◌>>=◌, ◌>>≡◌, choose, alike}
use Rattle.ieee754_laws.proofs.Degrees.{with_same}
use Rattle.linalg.specs.VectorScaling.{AtVector}
use Rattle.linalg.proofs.VectorDegrees.{vec_sub-scales, all_finite-same}
use Rattle.linalg.proofs.MatrixDegrees.{same-matrix, columns-at, mat_vec-scales}
use Rattle.p3p_common.specs.Types.{Vector3, Matrix3, Pose, P3pInput, Gated, Passed, Projected}
use Rattle.p3p_common.specs.NearOrthonormal.{has_near_orthonormal_columns}
use Rattle.p3p_common.specs.ProjectToRotation.{project_to_rotation}
use Rattle.p3p_common.specs.Gate.{if_valid, keep_point0, projected_gate, gate}
use Rattle.frames.specs.FrameScaling.{AtPose}
use Rattle.frames.proofs.PoseDegrees.{camera_point-scales}
use Rattle.p3p_common.specs.PoseScaling.{AtInput, AtGated, passed-at, projected-at}
use Rattle.p3p_common.specs.PoseScaling.{dropped-at}
use Rattle.p3p_common.proofs.RayScaling.{projected_pose-same}

module _ {k : ℤ} where
  if_valid-scales : (gated : Pose → Gated)
      → ((p p' : Pose) → AtPose k p p' → AtGated k (gated p) (gated p'))
      → {p p' : Pose}
      → AtPose k p p'
      → AtGated k (if_valid gated p) (if_valid gated p')
  unfolding if_valid
  if_valid-scales gated gated-at {p} {p'} pose =
      choose (AtGated k) (ap not (all_finite-same pose.translation)) dropped-at
      (gated-at p p' pose)

  -- two poses with one rotation
  turned-alike : (rotation : Matrix3) {t t' : Vector3}
      → AtVector k (pos 1) t t'
      → AtPose k (record { rotation = rotation; translation = t })
      (record { rotation = rotation; translation = t' })
  turned-alike rotation t = record { rotation = refl; translation = t }

  module _ {input input' : P3pInput} (raw : Matrix3) {t t' : Vector3}
      (input-at : AtInput k input input') (t-at : AtVector k (pos 1) t t') where
    keep_point0-scales : (rotation : Matrix3)
        → Both (AtGated k) (keep_point0 input raw t rotation) (keep_point0 input' raw t' rotation)
    unfolding keep_point0
    keep_point0-scales rotation =
        camera_point-scales (turned-alike raw t-at) input-at.world.p0 >>= λ _ _ camera0.
        mat_vec-scales refl refl refl (columns-at (same-matrix rotation)) input-at.world.p0 >>=
        λ _ _ turned.
        vec_sub-scales camera0 turned >>= λ _ _ kept.
        projected_pose-same (turned-alike rotation kept) input-at >>= λ _ _ fits.
        pure (choose (AtGated k) (ap not fits) dropped-at
        (if_valid-scales Projected (λ _ _ p. projected-at p) (turned-alike rotation kept)))

    projected_gate-scales :
        Both (AtGated k) (projected_gate input raw t) (projected_gate input' raw t')
    unfolding projected_gate
    projected_gate-scales =
        alike {m = project_to_rotation raw} >>≡ λ projection.
        with_same projection (pure dropped-at) keep_point0-scales

    pub gate-scales : Both (AtGated k) (gate input raw t) (gate input' raw t')
    unfolding gate
    gate-scales =
        alike {m = has_near_orthonormal_columns raw} >>= λ _ _ near.
        if near then pure (if_valid-scales Passed (λ _ _ p. passed-at p) (turned-alike raw t-at))
        else projected_gate-scales
