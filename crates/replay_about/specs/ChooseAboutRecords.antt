-- Records of the choice among poses about a point: the count, four poses, the point, the target and
-- the bearing, then the answer as in the choice's records. Whether a record has the answer of the
-- definition, and how many words it is long.
use Rattle.std.specs.Prelude.{ℕ, ◌+◌, ◌*◌, Bool, List}
use Rattle.about.specs.ChooseAbout.{choose_about}
use Rattle.replay_words.specs.Words.{word_at}
use Rattle.replay_records.specs.Contents.{narrow, vector_at, poses_at}
use Rattle.replay_pieces.specs.ChoiceRecords.{choice_agrees}

unfoldable pub choose_about_holds : List ℕ → Bool
choose_about_holds s =
    let count = narrow (word_at s 0) in
    let origin = vector_at s 392 in
    let target = vector_at s 416 in
    let bearing = vector_at s 440 in
    choice_agrees (choose_about (poses_at s 8) count origin target bearing).value s 464

-- the words that are taken, and those that are given
abbrev pub choose_about_words : ℕ
choose_about_words = (1 + 4 * 12 + 3 + 3 + 3) + 3
