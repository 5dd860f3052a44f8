-- Solutions of two runs stay alike as a pose is pushed: the same count, updates and marks, the
-- poses at their degrees. Assumes nothing.
use mathlib.Core.Path.{refl, ap}
use mathlib.Core.Bool.{Bool}
use Prim.Native.Nat.{ℕ, ◌+◌}
use lib.IntN.{ℤ, pos}
use lib.Dec.{ltb}
use lib.ListN.{set}
use Rattle.ieee754.specs.Scaling.{Both}
use Rattle.ieee754_laws.proofs.Degrees.{pure, ◌>>=◌, choose}
use Rattle.frames.proofs.Entries.{set-entries, four-entries}
use Rattle.frames.specs.Poses.{zero_pose}
use Rattle.linalg.specs.VectorScaling.{AtVector}
use Rattle.linalg.proofs.VectorDegrees.{null-vector}
use Rattle.p3p_common.specs.Types.{Vector3, Matrix3, Pose, P3pInput, Gated, Solutions}
use Rattle.p3p_common.specs.Slots.{empty, push}
use Rattle.p3p_common.specs.PushPose.{push_gated, push_pose}
use Rattle.frames.specs.FrameScaling.{AtPose}
use Rattle.p3p_common.specs.PoseScaling.{AtInput, AtGated, passed-at, projected-at}
use Rattle.p3p_common.specs.PoseScaling.{dropped-at, AtSolutions}
use Rattle.p3p_common.proofs.GateScaling.{gate-scales}

module _ {k : ℤ} where
  zero_pose-at : AtPose k zero_pose zero_pose
  zero_pose-at = record { rotation = refl; translation = null-vector }

  pub empty-scales : AtSolutions k empty empty
  unfolding empty
  empty-scales = record {
    count = refl;
    poses = four-entries zero_pose-at;
    updates = refl;
    lifted = refl;
  }

  pub push-scales : {s s' : Solutions} {p p' : Pose} (u : ℕ) (lifted : Bool)
      → AtSolutions k s s'
      → AtPose k p p'
      → AtSolutions k (push s p u lifted) (push s' p' u lifted)
  unfolding push
  push-scales u lifted h q =
      choose (AtSolutions k) (ap (λ (n : ℕ). ltb n 4) h.count)
      (record {
        count = ap (λ (n : ℕ). n + 1) h.count;
        poses = set-entries h.count h.poses q;
        updates = λ i. set (h.updates i) (h.count i) u;
        lifted = λ i. set (h.lifted i) (h.count i) lifted;
      })
      h

  push_gated-scales : {s s' : Solutions} {g g' : Gated} (u : ℕ) (lifted : Bool)
      → AtSolutions k s s'
      → AtGated k g g'
      → AtSolutions k (push_gated s g u lifted) (push_gated s' g' u lifted)
  unfolding push_gated
  push_gated-scales u lifted s (passed-at p) = push-scales u lifted s p
  push_gated-scales u lifted s (projected-at p) = push-scales u lifted s p
  push_gated-scales u lifted s dropped-at = s

  pub push_pose-scales : {input input' : P3pInput} {s s' : Solutions} (raw : Matrix3)
      {t t' : Vector3} (u : ℕ) (lifted : Bool)
      → AtInput k input input'
      → AtSolutions k s s'
      → AtVector k (pos 1) t t'
      → Both (AtSolutions k)
      (push_pose input s raw t u lifted)
      (push_pose input' s' raw t' u lifted)
  unfolding push_pose
  push_pose-scales raw u lifted input s t =
      gate-scales raw input t >>= λ _ _ gated.
      pure (push_gated-scales u lifted s gated)
