-- The slots of a solve hold what specs/PoseSlots.antt says: at the start, and after a pose is
-- pushed that took at most five updates. Assumes nothing.
use mathlib.Core.Path.{◌≡◌, refl, ◌∙◌, subst⁻¹}
use mathlib.Core.Bool.{Bool, false}
use mathlib.Core.Logic.{◌⊎◌, inl, inr}
use mathlib.Core.List.{List, [], ◌∷◌}
use Prim.Native.Nat.{ℕ, ◌+◌, ◌≤◌, ◌<◌}
use native.Mathlib.Nat.{not-suc-le-zero, eq-or-lt_of_le}
use native.Mathlib.Omega.{arith}
use lib.Dec.{T, ltb, ltb→lt}
use lib.ListN.{get_or, set, length-set}
use lib.Seq.{get_or-set_same, get_or-set_other}
use Rattle.ieee754.proofs.Tests.{either_way}
use Rattle.frames.proofs.Entries.{replicate-entry}
use Rattle.linalg.specs.Vectors.{all_finite}
use Rattle.linalg.specs.Matrices.{mat_finite}
use Rattle.frames.specs.Poses.{zero_pose}
use Rattle.p3p_common.specs.Types.{Matrix3, Vector3, Pose, P3pInput, Gated, Passed, Projected}
use Rattle.p3p_common.specs.Types.{Dropped, Solutions}
use Rattle.p3p_common.specs.Gate.{gate}
use Rattle.p3p_common.specs.Slots.{empty, push}
use Rattle.p3p_common.specs.PushPose.{push_gated, push_pose}
use Rattle.p3p_common.specs.PoseSlots.{Filled, FinitePose, PoseSlots}
use Rattle.p3p_common.proofs.FiniteGate.{FiniteGated, gate-finite}

-- ---- a list of slots
module _ {A : Type 0} where
  pub none_filled : (Holds : A → Type 0) (d : A) → Filled Holds d 0 (d ∷ d ∷ d ∷ d ∷ [])
  none_filled Holds d = record {
    four = refl;
    held = λ i h. absurd (not-suc-le-zero h);
    rest = λ i h. replicate-entry 4 i d;
  }

  -- the next slot is filled
  module _ (Holds : A → Type 0) (d : A) (n : ℕ) (l : List A) (a : A) (room : n < 4)
      (s : Filled Holds d n l) where
    held_at : Holds a → (i : ℕ) → (i ≡ n) ⊎ (i < n) → Holds (get_or (set l n a) i d)
    held_at h i (inl e) =
        let within = subst⁻¹ (λ (k : ℕ). n < k) s.four room in
        let here = subst⁻¹ Holds (get_or-set_same l n a d within) h in
        subst⁻¹ (λ (j : ℕ). Holds (get_or (set l n a) j d)) e here
    held_at h i (inr below) =
        subst⁻¹ Holds (get_or-set_other l n i a d (λ e. omega arith)) (s.held i below)

    pub next-filled : Holds a → Filled Holds d (n + 1) (set l n a)
    next-filled h = record {
      four = length-set l n a ∙ s.four;
      held = λ i below. let le : i ≤ n = omega arith in held_at h i (eq-or-lt_of_le le);
      rest = λ i beyond. get_or-set_other l n i a d (λ e. omega arith) ∙ s.rest i (omega arith);
    }

-- ---- the solutions
abbrev pub Kept : Solutions → Type 0
Kept s = PoseSlots s.count s.poses s.updates s.lifted

pub empty-kept : Kept empty
unfolding empty
empty-kept = record {
  few = omega arith;
  poses = none_filled FinitePose zero_pose;
  updates = none_filled (λ (n : ℕ). n ≤ 5) 0;
  lifted = none_filled (λ (b : Bool). Unit {0}) false;
}

push_kept : (s : Solutions) (p : Pose) (u : ℕ) (lifted : Bool)
    → FinitePose p
    → u ≤ 5
    → Kept s
    → Kept (push s p u lifted)
unfolding push
push_kept s p u lifted f h k =
    either_way Kept (ltb s.count 4)
    (λ t. let room : s.count < 4 = ltb→lt s.count 4 t in record {
      few = omega arith;
      poses = next-filled FinitePose zero_pose s.count s.poses p room k.poses f;
      updates = next-filled (λ (n : ℕ). n ≤ 5) 0 s.count s.updates u room k.updates h;
      lifted =
          next-filled (λ (b : Bool). Unit {0}) false s.count s.lifted lifted room k.lifted
          tt;
    })
    (λ _. k)

push_gated-kept : (s : Solutions) (g : Gated) (u : ℕ) (lifted : Bool)
    → FiniteGated g
    → u ≤ 5
    → Kept s
    → Kept (push_gated s g u lifted)
unfolding push_gated
push_gated-kept s (Passed p) u lifted f h k = push_kept s p u lifted f h k
push_gated-kept s (Projected p) u lifted f h k = push_kept s p u lifted f h k
push_gated-kept s Dropped u lifted f h k = k

pub push_pose-kept : (input : P3pInput) (s : Solutions) (r : Matrix3) (t : Vector3) (u : ℕ)
    (lifted : Bool)
    → (T (all_finite t) → T (mat_finite r))
    → u ≤ 5
    → Kept s
    → Kept (push_pose input s r t u lifted).value
unfolding push_pose
push_pose-kept input s r t u lifted whole h k =
    push_gated-kept s (gate input r t).value u lifted (gate-finite input r t whole) h k
