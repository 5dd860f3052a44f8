-- What a turn of the run leads to: the state, the lines that wait, and what is kept of the input.
-- What the calls of C read and write, and whether they succeed, is left open.
use Rattle.std.specs.Prelude.{◌≡◌, ℕ, ◌+◌, ◌%◌, ◌^◌, ◌<◌, ◌≤◌, min, true, false, List, [], length, take}
use Rattle.records.specs.Record.{record_at}
use Rattle.listing.specs.Lines.{roomy, Written}
use Rattle.listing_records.specs.RecordLines.{turn_lines, course_of}
use Rattle.listing_program.specs.Types.{Course, Write, Read, Next, Closed, State, Option, Some, None}
use Rattle.listing_program.specs.Types.{Filling, Filled, End, Failed}

-- one record more is listed, its lines have been put, and the next begins at a position of the same
-- buffer
pub record Counted (before : State) (next : ℕ) (put : Type 0) (after : State) : Type 0 where
  pub filled : after.filled ≡ before.filled
  pub begins : after.next ≡ next
  pub lines : put
  pub listed : after.listed ≡ (before.listed + 1) % 2 ^ 64
  pub ended : after.ended ≡ before.ended

-- what waited has been written
pub record Flushed (before : State) (waiting : List ℕ) (after : State) : Type 0 where
  pub filled : after.filled ≡ before.filled
  pub begins : after.next ≡ before.next
  pub none-waits : waiting ≡ []
  pub listed : after.listed ≡ before.listed
  pub ended : after.ended ≡ before.ended

-- reading once into a buffer of so many bytes adds some to those that are filled
abbrev pub Fills : (size filled : ℕ) → Filling → Type 0
Fills size filled (Filled n) = (filled ≤ n) × (n ≤ size)
Fills size filled End = filled < size
Fills size filled Failed = Unit {0}

-- a buffer that is all listed is begun again; elsewhere bytes are added, or the input has ended
pub record Fetched (size filled next count : ℕ) (after : State) : Type 0 where
  pub again : size ≤ next → (after.filled ≡ 0) × (after.next ≡ 0) × (after.ended ≡ false)
  pub on : next < size
      → (after.next ≡ next)
      × (filled ≤ after.filled)
      × (after.filled ≤ size)
      × (after.ended ≡ true → after.filled ≡ filled)
  pub listed : after.listed ≡ count

abbrev pub Reads : (size filled next listed : ℕ) → Option State → Type 0
Reads size filled next listed (Some after) = Fetched size filled next listed after
Reads size filled next listed None = Unit {0}

-- By the course of the record: `put` says that its lines wait, also those that close the listing.
-- `waiting` is what waits after the turn: before more is read, all that waited has been written.
abbrev pub Goes : (size : ℕ) → Course → State → Type 0 → List ℕ → Option State → Type 0
Goes size Write state put waiting (Some after) = Flushed state waiting after
Goes size Write state put waiting None = Unit {0}
Goes size Read state put waiting (Some after) =
    (waiting ≡ []) × Fetched size state.filled state.next state.listed after
Goes size Read state put waiting None = Unit {0}
Goes size (Next next) state put waiting (Some after) = Counted state next put after
Goes size (Next next) state put waiting None = ⊥
Goes size Closed state put waiting (Some after) = ⊥
Goes size Closed state put waiting None = put

-- one turn, of a buffer `input` of which so much as the state says has been read, and of a listing
-- of which `out` waits before it and `out'` after, in a buffer of so many bytes
abbrev pub Steps : (capacity : ℕ) → (input out out' : List ℕ) → State → Option State → Type 0
Steps capacity input out out' state turn =
    let found = record_at (take (min state.filled (length input)) input) state.next in
    let lines = turn_lines state.ended state.listed ((state.listed + 1) % 2 ^ 64) found in
    Goes (length input) (course_of (roomy capacity 1600 out) state.ended found) state
    (Written capacity 1600 out lines out') out' turn
