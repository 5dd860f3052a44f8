-- Records of the solve and of its stages: whether a record has the answer of the definition, and
-- how many words it is long.
use Rattle.std.specs.Prelude.{ℕ, ◌+◌, ◌*◌, Bool, ◌&&◌, List}
use Rattle.orderings.specs.Condition.{leading_cubic_condition}
use Rattle.replay_records.specs.Contents.{world_at, bearings_at}
use Rattle.replay_records.specs.Agreement.{double_agrees}
use Rattle.replay_stages.specs.EigenRecords.{system_holds, pairs_hold, row_crosses_hold}
use Rattle.replay_stages.specs.FrameRecords.{frame_holds}
use Rattle.replay_stages.specs.Types.{Stage, Frame, Eig, RowCrosses, Condition}

-- world points and bearings; the condition
unfoldable pub condition_holds : List ℕ → Bool
condition_holds s = double_agrees (leading_cubic_condition (world_at s 0) (bearings_at s 72)).value s 144

unfoldable pub stage_holds : Stage → List ℕ → Bool
stage_holds Frame s = frame_holds s
stage_holds Eig s = system_holds s && pairs_hold s
stage_holds RowCrosses s = row_crosses_hold s
stage_holds Condition s = condition_holds s

-- the words that are taken, and those that are given
abbrev pub stage_words : Stage → ℕ
stage_words Frame = (9 + 9 + 3 + 3) + (1 + 1 + 1 + 4 * 14)
stage_words Eig = 9 + (1 + 9 + 3 + 1)
stage_words RowCrosses = (9 + 1) + (1 + 3)
stage_words Condition = (9 + 9) + 1
