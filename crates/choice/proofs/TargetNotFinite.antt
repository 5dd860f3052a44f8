-- A checking target that is not finite has no finite score under any pose, so that the choice
-- refuses with 10 (`target-not-finite`): a finite score has a finite dividend, and each coordinate
-- of the target goes into it. Assumes nothing.
use mathlib.Core.Path.{◌≡◌, subst}
use mathlib.Core.Bool.{not}
use mathlib.Core.List.{List, [], ◌∷◌}
use Prim.Native.Nat.{ℕ}
use lib.Dec.{T, T_not}
use lib.Ieee.{Float, binary64, neg, add, sub, mul}
use lib.Ieee.Scale.{finite}
use Rattle.ieee754.proofs.Tests.{all_three}
use Rattle.ieee754_laws.proofs.Finite.{add-operands, mul-operands, div-dividend}
use Rattle.linalg.specs.Vectors.{all_finite, vec_add, dot, norm_squared, cross}
use Rattle.linalg.specs.Matrices.{mat_vec}
use Rattle.frames.specs.Poses.{camera_point}
use Rattle.choice.specs.Answer.{no_score}
use Rattle.choice.specs.Choose.{choose}
use Rattle.choice.specs.OneAnswer.{Each, stated, NoFiniteScore}
use Rattle.choice.specs.Types.{Vector3, Pose}
use Rattle.choice.proofs.Refusal.{refused-if}

-- one entry of R v + t
row_operands : (a x b y d z t : Float)
    → let ax = mul binary64 a x in
    let b-y = mul binary64 b y in
    let dz = mul binary64 d z in
    T (finite (add binary64 (add binary64 (add binary64 ax b-y) dz) t))
    → T (finite x) × T (finite y) × T (finite z)
row_operands a x b y d z t h =
    let ax = mul binary64 a x in
    let b-y = mul binary64 b y in
    let dz = mul binary64 d z in
    let turned = (add-operands (add binary64 (add binary64 ax b-y) dz) t h).0 in
    let last = add-operands (add binary64 ax b-y) dz turned in
    let first = add-operands ax b-y last.0 in
    ((mul-operands a x first.0).1, (mul-operands b y first.1).1, (mul-operands d z last.1).1)

camera-operands : (pose : Pose) (target : Vector3)
    → T (finite (camera_point pose target).value.y)
    → T (all_finite target)
unfolding camera_point mat_vec vec_add all_finite
camera-operands pose target h =
    let r = pose.rotation in
    let f =
    row_operands r.m10 target.x r.m11 target.y r.m12 target.z
    pose.translation.y h in
    all_three (finite target.x) (finite target.y) (finite target.z) f.0 f.1 f.2

-- the second entry of a stands in the first of a × b
cross-operand : (a b : Vector3)
    → T (finite (norm_squared (cross a b).value).value)
    → T (finite a.y)
unfolding norm_squared dot cross sub
cross-operand a b h =
    let c = (cross a b).value in
    let first = mul binary64 c.x c.x in
    let second = mul binary64 c.y c.y in
    let third = mul binary64 c.z c.z in
    let two = (add-operands (add binary64 first second) third h).0 in
    let x = (mul-operands c.x c.x (add-operands first second two).0).0 in
    let left = mul binary64 a.y b.z in
    let right = mul binary64 a.z b.y in
    (mul-operands a.y b.z (add-operands left (neg right) x).0).0

each_of : (P : Pose → Type 0) → ((pose : Pose) → P pose) → (poses : List Pose) → Each P poses
each_of P f [] = tt
each_of P f (pose ∷ poses) = (f pose, each_of P f poses)

module _ (target bearing : Vector3) (h : T (not (all_finite target))) where
  no-score : (pose : Pose) → NoFiniteScore target bearing pose
  no-score pose x s =
      let camera = (camera_point pose target).value in
      let finite-score = subst (λ (y : Float). T (finite y)) s.score-is s.score-finite in
      T_not (all_finite target) h
      (camera-operands pose target
      (cross-operand camera bearing (div-dividend _ _ finite-score)))

  pub target-not-finite : (poses : List Pose) (count : ℕ)
      → (choose poses count target bearing).value ≡ no_score
  target-not-finite poses count =
      refused-if target bearing poses count
      (each_of (NoFiniteScore target bearing) no-score (stated poses count))
