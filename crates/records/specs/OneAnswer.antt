-- Demand 1 of the mission, for records: at a position the input ends, or a record is refused with
-- 7, 8 or 9 or accepted, each exactly where document 01 ("Questions, in order") says. That it holds
-- of every input and position is `one_answer` in the proofs.
use Rattle.std.specs.Prelude.{◌≡◌, List, [], ◌∷◌, ℕ, ◌+◌, ◌≤◌, ◌<◌, length, get_or}
use Rattle.records.specs.Format.{part, big_endian, frame_at}
use Rattle.records.specs.Record.{number, frames, nexts}
use Rattle.records.specs.Types.{Frame, Record}

-- an answer by its number, its frame if there is one, and where the next record begins if there can
-- be one
pub record Gives (n : ℕ) (fs : List Frame) (next : List ℕ) (answer : Record) : Type 0 where
  pub number_is : number answer ≡ n
  pub frames-are : frames answer ≡ fs
  pub nexts-are : nexts answer ≡ next

-- the number that the two length bytes stand for
abbrev pub length_at : List ℕ → ℕ → ℕ
length_at s at = big_endian (part s at 2)

abbrev pub version_at : List ℕ → ℕ → ℕ
version_at s at = get_or s (at + 2) 0

-- ---- no byte is left; only one is; two are, and the length is not 193; it is, but of the 195 some
--      are missing; all are there, but the version is not 1; it is
pub data OneAnswer (s : List ℕ) (at : ℕ) (answer : Record) : Type 0 where
  ended : length s ≤ at → Gives 0 [] [] answer → OneAnswer s at answer
  no-length-9 : at < length s
      → length s < at + 2
      → Gives 9 [] [] answer
      → OneAnswer s at answer
  refused-7 : at + 2 ≤ length s
      → (length_at s at ≡ 193 → ⊥)
      → Gives 7 [] [] answer
      → OneAnswer s at answer
  refused-9 : at + 2 ≤ length s
      → length_at s at ≡ 193
      → length s < at + 195
      → Gives 9 [] [] answer
      → OneAnswer s at answer
  refused-8 : at + 195 ≤ length s
      → length_at s at ≡ 193
      → (version_at s at ≡ 1 → ⊥)
      → Gives 8 [] ((at + 195) ∷ []) answer
      → OneAnswer s at answer
  accepted : at + 195 ≤ length s
      → length_at s at ≡ 193
      → version_at s at ≡ 1
      → Gives 0 (frame_at s (at + 3) ∷ []) ((at + 195) ∷ []) answer
      → OneAnswer s at answer
