-- The choice gives one answer: the place of the lowest finite score, the earlier on a tie, or 10
-- exactly where no pose has one. What a finite score is stands here apart from the definition
-- `score`. That it holds of every input is `one_answer` in the proofs.
use Rattle.std.specs.Prelude.{◌≡◌, not, List, [], ◌∷◌, ◌++◌, ℕ, ◌+◌, ◌≤◌, min, T, Float, length, take}
use Rattle.std.specs.Float.{binary64}
use Rattle.std.specs.Float.Ieee.{lt, mul, div}
use Rattle.std.specs.Float.Ieee.Scale.{finite}
use Rattle.ieee754.specs.Literal.{plus_zero}
use Rattle.linalg.specs.Vectors.{dot, norm_squared, cross}
use Rattle.frames.specs.Poses.{camera_point}
use Rattle.choice.specs.Answer.{number, place, values}
use Rattle.choice.specs.Types.{Vector3, Pose, Best, Result}

-- what holds of each pose
abbrev pub Each : (Pose → Type 0) → List Pose → Type 0
Each P [] = Unit {0}
Each P (pose ∷ poses) = P pose × Each P poses

-- the poses that are looked at: the first `count`, and of these four at most
abbrev pub stated : List Pose → ℕ → List Pose
stated poses count = take (min count 4) poses

module _ (target bearing : Vector3) where
  -- camera · bearing: the target's depth along its bearing, as a pose puts it
  abbrev pub depth : Pose → Float
  depth pose = (dot (camera_point pose target).value bearing).value

  -- |camera × bearing|² ÷ (camera · bearing)²
  abbrev pub squared_tangent : Pose → Float
  squared_tangent pose =
      div binary64
      (norm_squared (cross (camera_point pose target).value bearing).value).value
      (mul binary64 (depth pose) (depth pose))

  -- a pose has a finite score, and which; and it has none
  pub record HasFiniteScore (pose : Pose) (x : Float) : Type 0 where
    pub in-front : T (lt plus_zero (depth pose))
    pub score-is : x ≡ squared_tangent pose
    pub score-finite : T (finite x)

  abbrev pub NoFiniteScore : Pose → Type 0
  NoFiniteScore pose = (x : Float) → HasFiniteScore pose x → ⊥

  -- the depth is not above zero: the target lies behind the camera or beside it, or the depth is a
  -- NaN
  abbrev pub IsBehind : Pose → Type 0
  IsBehind pose = T (not (lt plus_zero (depth pose)))

  -- what is asked of another pose if it has a finite score: to be above this one; not to be below
  -- it
  abbrev pub Above : Float → Pose → Type 0
  Above lowest pose = (x : Float) → HasFiniteScore pose x → T (lt lowest x)

  abbrev pub NotBelow : Float → Pose → Type 0
  NotBelow lowest pose = (x : Float) → HasFiniteScore pose x → T (not (lt x lowest))

  -- At a place, from 1, stands the pose with the lowest finite score: those before it that have one
  -- have a higher one, those after it none that is lower.
  pub record Lowest (poses : List Pose) (at : ℕ) (lowest : Float) : Type 0 where
    pub before : List Pose
    pub best : Pose
    pub after : List Pose
    pub poses-are : poses ≡ before ++ (best ∷ after)
    pub place_is : at ≡ length before + 1
    pub has-score : HasFiniteScore best lowest
    pub earlier : Each (Above lowest) before
    pub later : Each (NotBelow lowest) after

  -- ---- number 10, with no place and no score, where no pose has a finite score, and only there;
  --      otherwise the place of the lowest, which is one of the poses and at most four, and that
  --      score
  pub data OneAnswer (poses : List Pose) (count : ℕ) (answer : Result Best ℕ) : Type 0 where
    refused-10 : Each NoFiniteScore (stated poses count)
        → number answer ≡ 10
        → place answer ≡ 0
        → values answer ≡ []
        → OneAnswer poses count answer
    chosen : (lowest : Float)
        → Lowest (stated poses count) (place answer) lowest
        → number answer ≡ 0
        → 1 ≤ place answer
        → place answer ≤ min count 4
        → place answer ≤ length poses
        → values answer ≡ lowest ∷ []
        → OneAnswer poses count answer
