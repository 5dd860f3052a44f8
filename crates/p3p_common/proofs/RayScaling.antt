-- The tests of the rays come out the same in the two runs: the camera points are at degree 1, the
-- bearings and the rotation equal. Assumes nothing.
use mathlib.Core.Path.{◌≡◌, refl, ap, ap₂}
use mathlib.Core.Bool.{Bool, false, not, ◌&&◌}
use lib.IntN.{ℤ, pos}
use Rattle.ieee754.specs.Scaling.{Both}
use Rattle.ieee754_laws.proofs.Degrees.{same, null, !◌, ◌⊗◌, pure, if◌then◌else◌, ◌>>=◌, lt_same}
use Rattle.ieee754_laws.proofs.Degrees.{le_same, finite-same}
use Rattle.linalg.specs.VectorScaling.{AtVector}
use Rattle.linalg.proofs.VectorDegrees.{same-vector, dot-scales, norm_squared-scales, cross-scales}
use Rattle.frames.specs.FrameScaling.{AtPose}
use Rattle.frames.proofs.PoseDegrees.{camera_point-scales}
use Rattle.p3p_common.specs.Types.{Vector3, Pose, P3pInput}
use Rattle.p3p_common.specs.Literal.{projected_ray_tolerance}
use Rattle.p3p_common.specs.RayFits.{ray_fits}
use Rattle.p3p_common.specs.ProjectedPose.{observation_fits, projected_pose_fits_minimal_sample}
use Rattle.p3p_common.specs.PoseScaling.{AtInput}

-- both runs say no
no : false ≡ false
no = refl

module _ {k : ℤ} where
  pub ray_fits-same : {camera camera' : Vector3} (bearing : Vector3)
      → AtVector k (pos 1) camera camera'
      → Both {A = Bool} ◌≡◌ (ray_fits camera bearing) (ray_fits camera' bearing)
  unfolding ray_fits
  ray_fits-same bearing camera =
      dot-scales camera (same-vector bearing) >>= λ _ _ ray_depth.
      if ap₂ ◌&&◌ (finite-same ray_depth) (lt_same null ray_depth) then (
      cross-scales camera (same-vector bearing) >>= λ _ _ normal.
      norm_squared-scales normal >>= λ _ _ off_ray.
      ! same projected_ray_tolerance ⊗ ! same projected_ray_tolerance ⊗ ! ray_depth ⊗ ! ray_depth >>=
      λ _ _ limit.
      pure (le_same off_ray limit))
      else pure no

  module _ {pose pose' : Pose} (pose-at : AtPose k pose pose') where
    observation_fits-same : {world world' : Vector3} (bearing : Vector3)
        → AtVector k (pos 1) world world'
        → Both {A = Bool} ◌≡◌
        (observation_fits pose world bearing)
        (observation_fits pose' world' bearing)
    unfolding observation_fits
    observation_fits-same bearing world =
        camera_point-scales pose-at world >>= λ _ _ camera.
        ray_fits-same bearing camera

    pub projected_pose-same : {input input' : P3pInput}
        → AtInput k input input'
        → Both {A = Bool} ◌≡◌
        (projected_pose_fits_minimal_sample input pose)
        (projected_pose_fits_minimal_sample input' pose')
    unfolding projected_pose_fits_minimal_sample
    projected_pose-same {input} {input'} h =
        let f = input.bearings in
        let w = h.world in
        rw (← h.bearings) (
        observation_fits-same f.f0 w.p0 >>= λ _ _ fits0.
        if ap not fits0 then pure no
        else (
        observation_fits-same f.f1 w.p1 >>= λ _ _ fits1.
        if ap not fits1 then pure no else observation_fits-same f.f2 w.p2))
