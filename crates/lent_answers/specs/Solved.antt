-- What lent arrays hold after a solve: its answer, or what they held before where it is refused
-- (document 01, "Questions, in order").
use Rattle.std.specs.Prelude.{ℕ, Bool, true, false, List, [], ◌∷◌, map, ◌++◌, eqb, Float, if◌then◌else◌}
use Rattle.frames.specs.Lent.{entries}
use Rattle.lent_answers.specs.Types.{Pose, Answer}

-- one slot after another: of each the rotation by columns, and the translation, as in the listing
unfoldable pub all_entries : List Pose → List Float
all_entries [] = []
all_entries (p ∷ ps) = entries p ++ all_entries ps

unfoldable pub poses_after : Answer → List Float → List Float
poses_after answer held = if eqb answer.refusal 0 then all_entries answer.poses else held

unfoldable pub updates_after : Answer → List ℕ → List ℕ
updates_after answer held = if eqb answer.refusal 0 then answer.updates else held

-- 1 where the pose has its mark
abbrev pub flag : Bool → ℕ
flag true = 1
flag false = 0

unfoldable pub lifted_after : Answer → List ℕ → List ℕ
lifted_after answer held = if eqb answer.refusal 0 then map flag answer.lifted else held

unfoldable pub count_after : Answer → ℕ → ℕ
count_after answer held = if eqb answer.refusal 0 then answer.count else held
