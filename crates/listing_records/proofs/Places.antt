-- Bytes stored into a slice from a position on, and a text put there: the whole text where there
-- is room, and else nothing. Assumes nothing.
use Rattle.std.proofs.Common.{◌≡◌, ℕ, ◌+◌, ◌-◌, ◌<◌, ◌≤◌, List, [], ◌++◌, length, take}
use Rattle.std.proofs.Common.{sym, ap, ◌∙◌, append_assoc, arith}
use Rattle.std.proofs.lemmas.List.{drop-drop}
use Rattle.std.proofs.lemmas.List.Edits.{sets, sets-eq}
use borrow.Author.Tests.{le-leb, lt-leb}
use borrow.Rule.Slice.PartMut.{put_mid}
use Rattle.listing.specs.Lines.{Written}
use Rattle.listing.proofs.Writing.{appended}
use Rattle.listing_records.specs.Places.{Stored, WrittenAt}

-- a part of the slice replaced by as many bytes
pub stored : (l bytes part : List ℕ) (at k next : ℕ)
    → part ≡ bytes
    → k ≡ length bytes
    → next ≡ at + length bytes
    → at + length bytes ≤ length l
    → Stored l at bytes next (put_mid at k l part)
stored l bytes part at k next is long end inside = record {
  next-at = end;
  holds =
      rw (is, long, drop-drop (length bytes) at l)
      (sym (sets-eq bytes l at inside ∙ append_assoc (take at l) bytes _));
}

pub not_written_at : (room : ℕ) (l text : List ℕ) (at : ℕ)
    → length l - at < room
    → WrittenAt room l at text at l
not_written_at room l text at short =
    let no = lt-leb room (length l - at) short in
    record { next-at = rw no; holds = rw no; fits = omega arith }

-- what was put in an empty buffer of so many bytes is stored
pub written_at : {room at next : ℕ} {l before text lines bytes l' : List ℕ}
    → Stored l at bytes next l'
    → Written room room before text lines
    → bytes ≡ lines
    → before ≡ []
    → at + room ≤ length l
    → WrittenAt room l at text next l'
written_at {room} {at} {next} {l} {before} {text} {lines} {bytes} s w is none left =
    let yes = le-leb room (length l - at) (omega arith) in
    let empty : length before ≡ 0 = ap length none in
    let same : bytes ≡ text =
    is ∙ appended w (omega (arith, empty)) ∙ ap (λ (b : List ℕ). b ++ text) none in
    let long : length bytes ≡ length text = ap length same in
    let few : length text ≤ room = omega (arith, w.fits, empty, long, ap length is) in
    let end : next ≡ at + length text = omega (arith, s.next-at, long) in
    record {
      next-at = rw yes end;
      holds =
          rw yes
          (s.holds ∙ ap (sets l at) same ∙ sets-eq text l at (omega arith));
      fits = omega arith;
    }
