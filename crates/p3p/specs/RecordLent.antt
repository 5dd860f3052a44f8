-- Reading a frame's record out of lent bytes: what is returned, and what the doubles that are lent
-- for the frame hold after it. A refused record leaves them as they were: document 01, "Questions,
-- in order".
use Rattle.std.specs.Prelude.{ℕ, List, [], ◌∷◌, Float}
use Rattle.records.specs.Encoding.{vectors}
use Rattle.records.specs.Record.{number_of}
use Rattle.p3p.specs.Types.{Vector3, Record, End, Stop, Skip, Accepted}

-- 0 says that a frame was written, so where no byte is left the number is 9, as for a record that
-- is cut short
abbrev pub number_read : Record → ℕ
number_read End = 9
number_read (Stop refusal) = number_of refusal
number_read (Skip refusal next) = number_of refusal
number_read (Accepted frame next) = 0

-- x, y, z of each
abbrev pub coordinates : List Vector3 → List Float
coordinates [] = []
coordinates (v ∷ vs) = v.x ∷ v.y ∷ v.z ∷ coordinates vs

-- the frame's doubles, in the record's order
abbrev pub frame_after : Record → List Float → List Float
frame_after End held = held
frame_after (Stop refusal) held = held
frame_after (Skip refusal next) held = held
frame_after (Accepted frame next) held = coordinates (vectors frame)
