-- A plate in a record: the points, the squared edges, the inverse by its columns, and a number that
-- says whether there is one. Whether a plate is the one that stands at a place, bit for bit, and
-- whether what an operation gives is: its number, and the plate after it.
use Rattle.std.specs.Prelude.{ℕ, ◌+◌, Bool, not, ◌&&◌, List, eqb}
use Rattle.replay_words.specs.Words.{word_at}
use Rattle.replay_records.specs.Contents.{world_at, squares_at, matrix_at}
use Rattle.replay_records.specs.Agreement.{number_agrees, flag, matrix_agrees, world_agrees}
use Rattle.replay_records.specs.Agreement.{squares_agree}
use Rattle.replay_plates.specs.Types.{Plate, Outcome}

-- the plate that a record begins with: any number but 0 says that there is an inverse
unfoldable pub plate_at : List ℕ → Plate
plate_at s = record {
  world = world_at s 0;
  edges = squares_at s 72;
  invertible = not (eqb (word_at s 168) 0);
  inverse = matrix_at s 96;
}

unfoldable pub plate_agrees : Plate → List ℕ → ℕ → Bool
plate_agrees plate s at =
    world_agrees plate.world s at
    && squares_agree plate.edges s (at + 72)
    && matrix_agrees plate.inverse s (at + 96)
    && number_agrees (flag plate.invertible) s (at + 168)

unfoldable pub outcome_agrees : Outcome → List ℕ → ℕ → Bool
outcome_agrees outcome s at =
    number_agrees outcome.refusal s at && plate_agrees outcome.plate s (at + 8)
