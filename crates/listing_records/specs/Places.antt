-- Bytes put into a slice of any length from a position on.
use Rattle.std.specs.Prelude.{◌≡◌, ℕ, ◌+◌, ◌-◌, ◌≤◌, Bool, cond, leb}
use Rattle.std.specs.Prelude.{List, ◌++◌, length, take, drop}
use Rattle.std.proofs.lemmas.List.Edits.{sets}

-- After bytes have been stored one after another from a position on: the next position, and what
-- the slice holds.
pub record Stored (before : List ℕ) (at : ℕ) (bytes : List ℕ) (next : ℕ) (after : List ℕ)
    : Type 0 where
  pub next-at : next ≡ at + length bytes
  pub holds : after ≡ sets before at bytes

-- whether so many bytes are left of a slice from a position on
abbrev pub roomy_at : ℕ → List ℕ → ℕ → Bool
roomy_at room s at = leb room (length s - at)

-- After a text has been put from a position on, which is done where there is room: the next
-- position, and what the slice holds. Without room nothing is put. The room is a number of bytes
-- that every such text fits in: 1,600 for a record's lines.
pub record WrittenAt (room : ℕ) (before : List ℕ) (at : ℕ) (text : List ℕ) (next : ℕ) (after : List ℕ)
    : Type 0 where
  pub next-at : next ≡ cond (roomy_at room before at) (at + length text) at
  pub holds : after
      ≡ cond (roomy_at room before at) (take at before ++ text ++ drop (at + length text) before)
      before
  pub fits : next ≤ at + room
