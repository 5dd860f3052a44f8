-- The slots that the stages fill: none at first, one more with each pose that is kept, and a stage
-- that stops leaves a refusal whatever they hold. Assumes nothing.
use mathlib.Core.Path.{◌≡◌, refl}
use mathlib.Core.Bool.{Bool}
use mathlib.Core.List.{List, map}
use Prim.Native.Nat.{ℕ, ◌+◌, ◌<◌}
use native.Mathlib.Omega.{arith}
use lib.Ieee.{Float}
use lib.ListN.{set}
use Rattle.std.proofs.lemmas.List.{map-set}
use borrow.Author.Tests.{lt-ltb}
use Rattle.linalg.specs.Matrices.{from_columns}
use Rattle.frames.specs.Lent.{vector_at, pose_at, entries}
use Rattle.polynomial.proofs.RootTags.{no-root}
use Rattle.p3p_common.specs.Slots.{empty, push}
use Rattle.lambdatwist.specs.LentSlots.{pose_of, held, Fresh, Answers}
use Rattle.lambdatwist.specs.Solve.{if_kept, refused}
use Rattle.lambdatwist.specs.Types.{Pose}

-- ---- at first
pub none-held : {slots : List (List Float)} {updates : List ℕ} {lifted : List Bool}
    → Fresh slots updates lifted
    → held 0 slots updates lifted ≡ empty
unfolding held empty pose_at vector_at from_columns
none-held f =
    rw (
      f.no-poses,
      f.no-updates,
      f.no-marks,
    ) refl

-- ---- the next
pose-of-entries : (p : Pose) → pose_of (entries p) ≡ p
unfolding entries pose_at vector_at from_columns
pose-of-entries p = refl

pub next-held : (count : ℕ) (slots : List (List Float)) (updates : List ℕ) (lifted : List Bool)
    (pose : Pose) (taken : ℕ) (mark : Bool)
    → count < 4
    → push (held count slots updates lifted) pose taken mark
    ≡ held (count + 1) (set slots count (entries pose)) (set updates count taken)
    (set lifted count mark)
unfolding push held
next-held count slots updates lifted pose taken mark room =
    rw (
      lt-ltb count 4 room,
      map-set pose_of slots count (entries pose),
      pose-of-entries pose,
    )

pub ruleset filling = (next-held, none-held)

-- a cubic that has no one root
pub ruleset roots = (no-root)

-- ---- a stage that stops
pub stops : (slots : List (List Float)) (updates : List ℕ) (lifted : List Bool)
    → Answers 0 slots updates lifted (refused 3)
unfolding if_kept held
stops slots updates lifted = record { few = omega arith; same = refl }
