-- Reading a record: its questions, in their order, and the number, the frame and the next position
-- of each answer.
use Rattle.std.specs.Prelude.{ℕ, ◌+◌, ◌-◌, Bool, true, false, List, [], ◌∷◌, eqb, leb, ltb, length, get_or}
use Rattle.records.specs.Types.{Frame, Record, End, Stop, Skip, Accepted}
use Rattle.records.specs.Types.{RecordRefusal, Length, Version, Short}
use Rattle.records.specs.Format.{part, big_endian, frame_at}

-- where the answer to a question is no, that is the record's answer; else the next question is
-- asked
abbrev pub ask : Bool → Record → Record → Record
ask true refused further = further
ask false refused further = refused

-- the record at a position of an input: two length bytes, the version byte, 192 bytes of doubles
unfoldable pub record_at : List ℕ → ℕ → Record
record_at s at =
    let left = length s - at in
    ask (ltb 0 left) End  -- Is any byte left?
    (ask (leb 2 left) (Stop Short)  -- Are both length bytes there?
    (ask (eqb (big_endian (part s at 2)) 193) (Stop Length)  -- Is the length 193?
    (ask (leb 193 (left - 2)) (Stop Short)  -- Are 193 bytes there?
    (ask (eqb (get_or s (at + 2) 0) 1) (Skip Version (at + 195))  -- Is the version byte 1?
    (Accepted (frame_at s (at + 3)) (at + 195))))))

-- a refusal's number
abbrev pub number_of : RecordRefusal → ℕ
number_of Length = 7
number_of Version = 8
number_of Short = 9

-- a record's number, 0 where nothing is refused
abbrev pub number : Record → ℕ
number End = 0
number (Stop refusal) = number_of refusal
number (Skip refusal next) = number_of refusal
number (Accepted frame next) = 0

-- the frame of an accepted record; the others have none
abbrev pub frames : Record → List Frame
frames End = []
frames (Stop refusal) = []
frames (Skip refusal next) = []
frames (Accepted frame next) = frame ∷ []

-- where the next record begins; after the input's end and after a stop there is none
abbrev pub nexts : Record → List ℕ
nexts End = []
nexts (Stop refusal) = []
nexts (Skip refusal next) = next ∷ []
nexts (Accepted frame next) = next ∷ []
