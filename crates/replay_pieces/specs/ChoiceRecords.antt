-- Records of the choice: the count, four poses, the target and the bearing, then the refusal
-- number, 0 where nothing is refused, the place from 1 and the score. Whether a record has the
-- answer of the definition, and how many words it is long.
use Rattle.std.specs.Prelude.{ℕ, ◌+◌, ◌*◌, Bool, ◌&&◌, List}
use Rattle.choice.specs.Answer.{number}
use Rattle.choice.specs.Choose.{choose}
use Rattle.replay_words.specs.Words.{word_at}
use Rattle.replay_records.specs.Contents.{narrow, vector_at, poses_at}
use Rattle.replay_records.specs.Agreement.{number_agrees, double_agrees}
use Rattle.replay_pieces.specs.Types.{Best, Result, Ok, Err}

-- the number, the place and the score begin at `at`
abbrev pub choice_agrees : Result Best ℕ → List ℕ → ℕ → Bool
choice_agrees (Ok best) s at =
    number_agrees (number (Ok best)) s at
    && number_agrees best.place s (at + 8)
    && double_agrees best.score s (at + 16)
choice_agrees (Err n) s at = number_agrees (number (Err n)) s at

unfoldable pub choice_holds : List ℕ → Bool
choice_holds s =
    let count = narrow (word_at s 0) in
    choice_agrees (choose (poses_at s 8) count (vector_at s 392) (vector_at s 416)).value s 440

-- the words that are taken, and those that are given
abbrev pub choice_words : ℕ
choice_words = (1 + 4 * 12 + 3 + 3) + 3
