-- The camera point of a world point under two poses alike is at degree 1. Assumes nothing.
use mathlib.Core.Path.{refl}
use lib.IntN.{ℤ, pos}
use Rattle.ieee754.specs.Scaling.{Both}
use Rattle.ieee754_laws.proofs.Degrees.{◌>>=◌}
use Rattle.linalg.specs.VectorScaling.{AtVector}
use Rattle.linalg.proofs.VectorDegrees.{vec_add-scales}
use Rattle.linalg.proofs.MatrixDegrees.{same-matrix, columns-at, mat_vec-scales}
use Rattle.frames.specs.Types.{Vector3, Pose}
use Rattle.frames.specs.Poses.{camera_point}
use Rattle.frames.specs.FrameScaling.{AtPose}

pub camera_point-scales : {k : ℤ} {p p' : Pose} {w w' : Vector3}
    → AtPose k p p'
    → AtVector k (pos 1) w w'
    → Both (AtVector k (pos 1)) (camera_point p w) (camera_point p' w')
unfolding camera_point
camera_point-scales {k} {p} {p'} pose world =
    rw (← pose.rotation) (
    mat_vec-scales refl refl refl (columns-at (same-matrix p.rotation)) world >>= λ _ _ turned.
    vec_add-scales turned pose.translation)
