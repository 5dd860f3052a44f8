-- Records of the solve: world points, bearings, the checking target and its bearing; then the
-- refusal number, the count, the choice's place, and the four slots. Whether a record has the
-- answer of the solve's definition: of every word but the choice's place, which is another
-- function's.
use Rattle.std.specs.Prelude.{ℕ, Bool, List}
use Rattle.lambdatwist.specs.Solve.{solve}
use Rattle.replay_records.specs.Contents.{world_at, bearings_at}
use Rattle.replay_stages.specs.AnswerRecords.{answer_agrees}

unfoldable pub frame_holds : List ℕ → Bool
frame_holds s = answer_agrees (solve (world_at s 0) (bearings_at s 72)).value s 192 216
