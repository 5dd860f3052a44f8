-- Records of the solve about the first target: world points and bearings; then the refusal number,
-- the count, the origin, and the four slots. Whether a record has the answer of the definition, of
-- every word, and how many words it is long. A refused solve has plus zeros for its origin, and so
-- has its record.
use Rattle.std.specs.Prelude.{ℕ, ◌+◌, ◌*◌, Bool, ◌&&◌, List}
use Rattle.about.specs.SolveAbout.{solve_about}
use Rattle.replay_records.specs.Contents.{world_at, bearings_at}
use Rattle.replay_records.specs.Agreement.{vector_agrees}
use Rattle.replay_stages.specs.AnswerRecords.{answer_agrees}
use Rattle.replay_about.specs.Types.{AnswerAbout}

unfoldable pub answer_about_agrees : AnswerAbout → List ℕ → Bool
answer_about_agrees about s =
    answer_agrees about.answer s 144 184 && vector_agrees about.origin s 160

unfoldable pub solve_about_holds : List ℕ → Bool
solve_about_holds s = answer_about_agrees (solve_about (world_at s 0) (bearings_at s 72)).value s

-- the words that are taken, and those that are given
abbrev pub solve_about_words : ℕ
solve_about_words = (9 + 9) + (1 + 1 + 3 + 4 * 14)
