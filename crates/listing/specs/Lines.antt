-- The lines of the listing, as bytes, and what putting one behind those that wait leaves.
use Rattle.std.specs.Prelude.{ℕ, ◌+◌, ◌-◌, ◌≤◌, ◌≡◌, Bool, cond, List, ◌++◌, leb, length, decimal, Float}
use Rattle.std.specs.Float.{binary64}
use Rattle.std.specs.Float.Ieee.{to_bits}
use Rattle.listing.specs.Types.{Vector3, Pose, Slot, Line, Header, Refused, Accepted, PoseLine}
use Rattle.listing.specs.Types.{Stop, End}
use Rattle.linalg.specs.Matrices.{column0, column1, column2}
use Rattle.listing.specs.Bytes.{ascii}
use Rattle.listing.specs.Digits.{hexadecimal}

-- a space and a double's bit pattern; that of a NaN, which no pose holds, is 7ff8000000000000
unfoldable pub word_of : Float → List ℕ
word_of x = ascii " " ++ hexadecimal 16 (to_bits binary64 x)

unfoldable pub words_of : Vector3 → List ℕ
words_of v = word_of v.x ++ word_of v.y ++ word_of v.z

-- the rotation by columns, the translation
unfoldable pub pose_words : Pose → List ℕ
pose_words p =
    words_of (column0 p.rotation) ++ words_of (column1 p.rotation)
    ++ words_of (column2 p.rotation) ++ words_of p.translation

-- poses v1
unfoldable pub header_line : List ℕ
header_line = ascii "poses v1\n"

-- N refused R
unfoldable pub refused_line : ℕ → ℕ → List ℕ
refused_line n r = decimal n ++ ascii " refused " ++ decimal r ++ ascii "\n"

-- N poses K best J
unfoldable pub accepted_line : ℕ → ℕ → ℕ → List ℕ
accepted_line n k j =
    decimal n ++ ascii " poses " ++ decimal k ++ ascii " best " ++ decimal j ++ ascii "\n"

-- the word that a pose's line ends in
unfoldable pub mark_text : Bool → List ℕ
mark_text lifted = cond lifted (ascii " lifted") (ascii " plain")

-- N.J updates U, the twelve words, and the mark
unfoldable pub pose_line : ℕ → ℕ → Slot → List ℕ
pose_line n j slot =
    decimal n ++ ascii "." ++ decimal j ++ ascii " updates " ++ decimal slot.updates
    ++ pose_words slot.pose ++ mark_text slot.lifted ++ ascii "\n"

-- stop R at N
unfoldable pub stop_line : ℕ → ℕ → List ℕ
stop_line r n = ascii "stop " ++ decimal r ++ ascii " at " ++ decimal n ++ ascii "\n"

-- end N
unfoldable pub end_line : ℕ → List ℕ
end_line n = ascii "end " ++ decimal n ++ ascii "\n"

abbrev pub text : Line → List ℕ
text Header = header_line
text (Refused n r) = refused_line n r
text (Accepted n k j) = accepted_line n k j
text (PoseLine n j slot) = pose_line n j slot
text (Stop r n) = stop_line r n
text (End n) = end_line n

-- whether so many bytes are left behind those that wait, of a buffer of so many
abbrev pub roomy : (capacity room : ℕ) → List ℕ → Bool
roomy capacity room waiting = leb room (capacity - length waiting)

-- What waits after a text has been put behind what waited, which is done where there is room in a
-- buffer of so many bytes. Without room nothing is put. The room is a number of bytes that every
-- such text fits in: 320 for a line.
pub record Written (capacity room : ℕ) (before text after : List ℕ) : Type 0 where
  pub holds : after ≡ cond (roomy capacity room before) (before ++ text) before
  pub fits : length after ≤ length before + room
