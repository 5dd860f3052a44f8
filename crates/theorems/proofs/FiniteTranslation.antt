-- Every slot of an answer has a finite translation, as the scaling rule's proof needs it: a
-- consequence of demand 1 (`one_answer`). Assumes nothing.
use mathlib.Core.Path.{subst⁻¹}
use mathlib.Core.Logic.{⊎_elim}
use mathlib.Core.Bool.{Bool}
use mathlib.Core.List.{List}
use Prim.Native.Nat.{ℕ}
use lib.Dec.{T}
use lib.ListN.{get_or}
use lib.Ieee.{of_bits}
use Rattle.ieee754_parts.proofs.Tests.{lt-or-ge}
use Rattle.linalg.specs.Vectors.{zeros, all_finite}
use Rattle.frames.specs.Poses.{zero_pose}
use Rattle.p3p_common.specs.PoseSlots as slots
use Rattle.p3p_common.proofs.SlotLaws.{none_filled}
use Rattle.lambdatwist.specs.Solve.{solve}
use Rattle.theorems.specs.OneAnswer.{Refused, NamedAnswer, refused-1, refused-2, refused-3}
use Rattle.theorems.specs.OneAnswer.{accepted}
use Rattle.theorems.specs.Types.{Pose, World, Bearings, Answer}
use Rattle.theorems.proofs.OneAnswer.{one_answer}

abbrev pub FiniteTranslations : List Pose → Type 0
FiniteTranslations l = (i : ℕ) → T (all_finite (get_or l i zero_pose).translation)

pub zeros-finite : T (all_finite zeros)
unfolding all_finite of_bits
zeros-finite = tt

filled-finite : (n : ℕ) (l : List Pose)
    → slots.Filled slots.FinitePose zero_pose n l
    → FiniteTranslations l
filled-finite n l s i =
    ⊎_elim (λ below. (s.held i below).translation)
    (λ beyond.
    subst⁻¹ (λ (p : Pose). T (all_finite p.translation)) (s.rest i beyond) zeros-finite)
    (lt-or-ge i n)

refused-finite : {n : ℕ} {a : Answer} → Refused n a → FiniteTranslations a.poses
refused-finite r =
    subst⁻¹ FiniteTranslations r.poses
    (filled-finite 0 _ (none_filled slots.FinitePose zero_pose))

answer-finite : {finite none : Bool} {a : Answer}
    → NamedAnswer finite none a
    → FiniteTranslations a.poses
answer-finite (refused-1 f r) = refused-finite r
answer-finite (refused-2 f o r) = refused-finite r
answer-finite (refused-3 f o r) = refused-finite r
answer-finite {a} (accepted f o s) = filled-finite a.count a.poses s.slots.poses

pub solve-finite : (world : World) (bearings : Bearings)
    → FiniteTranslations (solve world bearings).value.poses
solve-finite world bearings = answer-finite (one_answer world bearings)
