-- What the scaling rule says of two runs' inputs, gates and solutions: bearings, counts and marks
-- equal.
use Rattle.std.specs.Prelude.{◌≡◌, ℤ}
use mathlib.Core.List.{Forall₂}
use Rattle.frames.specs.FrameScaling.{AtWorld, AtPose}
use Rattle.p3p_common.specs.Types.{Pose, P3pInput, Gated, Passed, Projected, Dropped}
use Rattle.p3p_common.specs.Types.{Solutions}

pub record AtInput (k : ℤ) (input input' : P3pInput) : Type 0 where
  pub world : AtWorld k input.world input'.world
  pub bearings : input.bearings ≡ input'.bearings

-- both passed, both projected, or both dropped
pub data AtGated (k : ℤ) : Gated → Gated → Type 0 where
  passed-at : {p p' : Pose} → AtPose k p p' → AtGated k (Passed p) (Passed p')
  projected-at : {p p' : Pose} → AtPose k p p' → AtGated k (Projected p) (Projected p')
  dropped-at : AtGated k Dropped Dropped

-- the library's `Forall₂ R` says of two lists that they are of one length and that R holds of their
-- entries in each place
pub record AtSolutions (k : ℤ) (s s' : Solutions) : Type 0 where
  pub count : s.count ≡ s'.count
  pub poses : Forall₂ (AtPose k) s.poses s'.poses
  pub updates : s.updates ≡ s'.updates
  pub lifted : s.lifted ≡ s'.lifted
