-- From depth candidates to poses: depths at degree 1 are refined alike, and give the same
-- rotations and marks, with translations at degree 1. Assumes nothing.
use mathlib.Core.Path.{◌≡◌, refl, ap}
use mathlib.Core.Bool.{Bool, not, ◌&&◌}
use mathlib.Core.List.{List, Forall₂}
use Prim.Native.Nat.{ℕ}
use lib.IntN.{ℤ, pos, negsuc}
use Rattle.ieee754.specs.Scaling.{Both}
use Rattle.ieee754_laws.proofs.Degrees.{null, pure, ◌>>=◌, ◌>>≡◌, if◌then◌else◌, le_same}
use Rattle.frames.proofs.Entries.{take-entries}
use Rattle.linalg.specs.VectorScaling.{AtVector, AtRows}
use Rattle.linalg.proofs.VectorDegrees.{same-vector, vec_sub-scales, vec_mul-scales, all_finite-same}
use Rattle.linalg.proofs.MatrixDegrees.{same-matrix, columns-at, mat_vec-scales}
use Rattle.p3p_common.specs.PoseScaling.{AtInput, AtSolutions}
use Rattle.refinement.specs.RefinedScaling.{AtRefined}
use Rattle.refinement.specs.RefineDepths.{refine_depths}
use Rattle.refinement.proofs.RefineScaling.{refine_depths-scales}
use Rattle.p3p_common.proofs.BasisScaling.{rotation_from_edges-same}
use Rattle.p3p_common.proofs.SlotScaling.{empty-scales, push_pose-scales}
use Rattle.lambdatwist.specs.Poses.{all_positive, push_depths, pose_turn, pose_turns, poses}
use Rattle.lambdatwist.specs.Types.{Vector3, Matrix3, P3pInput, Measured, Refined}
use Rattle.lambdatwist.specs.Types.{Solutions, Candidate, Candidates}
use Rattle.orderings.proofs.MeasureScaling.{AtMeasured}
use Rattle.depths.proofs.ChartScaling.{AtCandidate, AtCandidates}

module _ {k : ℤ} where
  all_positive-same : {d d' : Vector3} → AtVector k (pos 1) d d' → all_positive d ≡ all_positive d'
  unfolding all_positive
  all_positive-same d = λ i.
      all_finite-same d i
      && (not (le_same d.x null i) &&
      (not (le_same d.y null i) && not (le_same d.z null i)))

  module _ {input input' : P3pInput} {a a' : Measured} {m m' : Matrix3}
      (I : AtInput k input input')
      (A : AtMeasured k a a')
      (M : AtRows k (negsuc 0) (negsuc 0) (negsuc 1) m m')
    where
      push_depths-scales : {s s' : Solutions} {depths depths' : Vector3} (updates : ℕ)
          (lifted : Bool)
          → AtSolutions k s s'
          → AtVector k (pos 1) depths depths'
          → Both (AtSolutions k)
          (push_depths input a m s (record { depths = depths; updates = updates }) lifted)
          (push_depths input' a' m' s' (record { depths = depths'; updates = updates }) lifted)
      unfolding push_depths
      push_depths-scales updates lifted output depths =
          let bearings = a.bearings in
          rw (← A.bearings) (
          vec_mul-scales (same-vector bearings.f0) depths.x >>= λ _ _ camera0.
          vec_mul-scales (same-vector bearings.f1) depths.y >>= λ _ _ camera1.
          vec_mul-scales (same-vector bearings.f2) depths.z >>= λ _ _ camera2.
          vec_sub-scales camera0 camera1 >>= λ _ _ edge01.
          vec_sub-scales camera0 camera2 >>= λ _ _ edge02.
          rotation_from_edges-same edge01 edge02 M >>≡ λ rotation.
          mat_vec-scales refl refl refl (columns-at (same-matrix rotation)) A.p0 >>= λ _ _ turned.
          vec_sub-scales camera0 turned >>= λ _ _ translation.
          push_pose-scales rotation updates lifted I output translation)

      push_refined-scales : {s s' : Solutions} {r r' : Refined} {lifted lifted' : Bool}
          → AtSolutions k s s'
          → AtRefined k r r'
          → lifted ≡ lifted'
          → Both (AtSolutions k)
          (push_depths input a m s r lifted)
          (push_depths input' a' m' s' r' lifted')
      push_refined-scales {s} {s'} {r} {r'} {lifted} output refined mark =
          rw (← refined.updates, ← mark)
          (push_depths-scales r.updates lifted output refined.depths)

      -- the cosines are equal, so they may be taken of either run
      refined-scales : {d d' : Vector3}
          → AtVector k (pos 1) d d'
          → Both (AtRefined k)
          (refine_depths d a.squares a.cosines 5)
          (refine_depths d' a'.squares a'.cosines 5)
      refined-scales depths =
          rw (← A.cosines) (refine_depths-scales a.cosines 5 depths A.squares)

      pose_turn-scales : {s s' : Solutions} {c c' : Candidate}
          → AtSolutions k s s'
          → AtCandidate k c c'
          → Both (AtSolutions k) (pose_turn input a m s c) (pose_turn input' a' m' s' c')
      unfolding pose_turn
      pose_turn-scales output candidate =
          refined-scales candidate.depths >>= λ _ _ refined.
          if ap not (all_positive-same refined.depths) then pure output
          else push_refined-scales output refined candidate.lifted

      pose_turns-scales : {cs cs' : List Candidate} {s s' : Solutions}
          → Forall₂ (AtCandidate k) cs cs'
          → AtSolutions k s s'
          → Both (AtSolutions k) (pose_turns input a m cs s) (pose_turns input' a' m' cs' s')
      unfolding pose_turns
      pose_turns-scales Forall₂.nil output = pure output
      pose_turns-scales (Forall₂.cons candidate rest) output =
          pose_turn-scales output candidate >>= λ _ _ next.
          pose_turns-scales rest next

      pub poses-scales : {c c' : Candidates}
          → AtCandidates k c c'
          → Both (AtSolutions k) (poses input a m c) (poses input' a' m' c')
      unfolding poses
      poses-scales found =
          pose_turns-scales (take-entries found.count found.slots) empty-scales
