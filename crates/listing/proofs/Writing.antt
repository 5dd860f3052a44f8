-- A text put behind what waits: the whole text where there is room, and else nothing. Assumes
-- nothing.
use Rattle.std.proofs.Common.{◌≡◌, ℕ, ◌+◌, ◌-◌, ◌<◌, ◌≤◌, List, ◌++◌, length, arith}
use borrow.Author.Tests.{le-leb, lt-leb}
use Rattle.listing.specs.Lines.{Written}

pub not_written : (capacity room : ℕ) (before text : List ℕ)
    → capacity - length before < room
    → Written capacity room before text before
not_written capacity room before text short =
    let no = lt-leb room (capacity - length before) short in
    record { holds = rw no; fits = omega arith }

pub written : (capacity room : ℕ) (before text after : List ℕ)
    → length before + room ≤ capacity
    → after ≡ before ++ text
    → length after ≤ length before + room
    → Written capacity room before text after
written capacity room before text after left e short =
    let yes = le-leb room (capacity - length before) (omega arith) in
    record { holds = rw yes e; fits = short }

-- with room the text is put
pub appended : {capacity room : ℕ} {before text after : List ℕ}
    → Written capacity room before text after
    → length before + room ≤ capacity
    → after ≡ before ++ text
appended {capacity} {room} {before} w left =
    let yes = le-leb room (capacity - length before) (omega arith) in rw yes at w.holds
