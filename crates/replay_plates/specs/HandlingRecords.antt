-- Records of a plate's making, of the operations on it, of the solve with it and of the preview of
-- a moved target: what the function takes, then what it gives. Whether a record has the answer of
-- the definition, of every word, and how many words it is long. After a refused operation the
-- record has the old plate, after a refused making plus zeros, as the definitions say.
use Rattle.std.specs.Prelude.{ℕ, ◌+◌, ◌*◌, Bool, ◌&&◌, List}
use Rattle.plates.specs.Make.{make}
use Rattle.plates.specs.Replace.{replace}
use Rattle.plates.specs.Exchange.{exchange}
use Rattle.plates.specs.TimesPower.{times_power}
use Rattle.plates.specs.SolvePlate.{solve_plate}
use Rattle.preview.specs.Preview.{preview}
use Rattle.replay_words.specs.Words.{word_at}
use Rattle.replay_records.specs.Contents.{narrow, vector_at, world_at, bearings_at}
use Rattle.replay_stages.specs.AnswerRecords.{answer_agrees}
use Rattle.replay_records.specs.Agreement.{squares_agree}
use Rattle.replay_plates.specs.PlateContents.{plate_at, outcome_agrees}
use Rattle.replay_plates.specs.Exponents.{is_exponent, exponent}
use Rattle.replay_plates.specs.Types.{Shown, Handling, Make, Replace, Exchange, Scale}
use Rattle.replay_plates.specs.Types.{Solve, Preview}

-- ---- points; number and plate
unfoldable pub make_holds : List ℕ → Bool
make_holds s = outcome_agrees (make (world_at s 0)) s 72

-- ---- a plate, a target and a point; number and plate
unfoldable pub replace_holds : List ℕ → Bool
replace_holds s =
    outcome_agrees (replace (plate_at s) (narrow (word_at s 176)) (vector_at s 184)) s 208

-- ---- a plate and two targets; number and plate
unfoldable pub exchange_holds : List ℕ → Bool
exchange_holds s =
    outcome_agrees (exchange (plate_at s) (narrow (word_at s 176)) (narrow (word_at s 184))) s 192

-- ---- a plate and an exponent, which is of 32 bits; number and plate
unfoldable pub scale_holds : List ℕ → Bool
scale_holds s =
    let w = word_at s 176 in
    is_exponent w && outcome_agrees (times_power (plate_at s) (exponent w)) s 184

-- ---- a plate and bearings; refusal number, count and four slots
unfoldable pub solve_holds : List ℕ → Bool
solve_holds s = answer_agrees (solve_plate (plate_at s) (bearings_at s 176)).value s 248 264

-- ---- a plate, a target, a point and bearings; refusal number, count, squared edges and four slots
unfoldable pub shown_agrees : Shown → List ℕ → Bool
shown_agrees shown s = answer_agrees shown.answer s 280 320 && squares_agree shown.edges s 296

unfoldable pub preview_holds : List ℕ → Bool
preview_holds s =
    shown_agrees
    (preview (plate_at s) (narrow (word_at s 176)) (vector_at s 184) (bearings_at s 208)) s

unfoldable pub handling_holds : Handling → List ℕ → Bool
handling_holds Make s = make_holds s
handling_holds Replace s = replace_holds s
handling_holds Exchange s = exchange_holds s
handling_holds Scale s = scale_holds s
handling_holds Solve s = solve_holds s
handling_holds Preview s = preview_holds s

-- the words that are taken, and those that are given
abbrev pub handling_words : Handling → ℕ
handling_words Make = 9 + (1 + 22)
handling_words Replace = (22 + 1 + 3) + (1 + 22)
handling_words Exchange = (22 + 1 + 1) + (1 + 22)
handling_words Scale = (22 + 1) + (1 + 22)
handling_words Solve = (22 + 9) + (1 + 1 + 4 * 14)
handling_words Preview = (22 + 1 + 3 + 9) + (1 + 1 + 3 + 4 * 14)
