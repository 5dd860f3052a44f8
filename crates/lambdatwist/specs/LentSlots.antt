-- The slots that a solve fills, as the code lends them from stage to stage: for each of four poses
-- its twelve entries, its updates, and its mark. What they hold is a `Solutions`
-- (SolverP3pSolutions of common.rs), and at the end the definition's answer.
use Rattle.std.specs.Prelude.{ℕ, ◌≤◌, ◌≡◌, Bool, false, List, map, Float, replicate}
use Rattle.std.specs.Prelude.{Option, Some, None}
use Rattle.ieee754.specs.Literal.{plus_zero}
use Rattle.frames.specs.Lent.{pose_at}
use Rattle.p3p_common.specs.Slots.{push}
use Rattle.lambdatwist.specs.Solve.{if_kept}
use Rattle.lambdatwist.specs.Types.{Pose, Solutions, Kept, Answer}

abbrev pub pose_of : List Float → Pose
pose_of slot = pose_at slot 0

unfoldable pub held : ℕ → List (List Float) → List ℕ → List Bool → Solutions
held count slots updates lifted =
    record { count = count; poses = map pose_of slots; updates = updates; lifted = lifted }

-- ---- what is lent at first: plus zeros, and no mark
pub record Fresh (slots : List (List Float)) (updates : List ℕ) (lifted : List Bool)
    : Type 0 where
  pub no-poses : slots ≡ replicate 4 (replicate 12 plus_zero)
  pub no-updates : updates ≡ replicate 4 0
  pub no-marks : lifted ≡ replicate 4 false

-- ---- what a candidate's pose does to the solutions; `lifted` is the candidate's mark
abbrev pub turned : Solutions → Option Kept → Bool → Solutions
turned output (Some kept) lifted = push output kept.pose kept.updates lifted
turned output None lifted = output

-- ---- what a stage leaves: so many slots that are its answer
pub record Answers (count : ℕ) (slots : List (List Float)) (updates : List ℕ) (lifted : List Bool)
    (answer : Answer)
    : Type 0 where
  pub few : count ≤ 4
  pub same : if_kept (held count slots updates lifted) ≡ answer
