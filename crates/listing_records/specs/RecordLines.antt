-- What is listed of a record, and how the run goes on after it: refusals 7 and 9 stop the run, and
-- the rest go on to the next record. Of an input that is read in parts, what is not there may still
-- come, so the input's end and 9 wait until it has ended.
use Rattle.std.specs.Prelude.{ℕ, Bool, false, not, List, [], if◌then◌else◌}
use Rattle.records.specs.Record.{number_of}
use Rattle.listing.specs.Lines.{refused_line, stop_line, end_line}
use Rattle.listing_records.specs.FrameLines.{frame_lines}
use Rattle.listing_records.specs.Types.{End, Stop, Skip, Accepted, Record, Course, Write}
use Rattle.listing_records.specs.Types.{Read, Next, Closed, Length, Version, Short}

-- the lines of a record, the n-th, after so many listed ones; at the input's end and at a stop the
-- line that closes the listing
unfoldable pub record_lines : ℕ → ℕ → Record → List ℕ
record_lines listed n End = end_line listed
record_lines listed n (Stop refusal) = stop_line (number_of refusal) n
record_lines listed n (Skip refusal next) = refused_line n (number_of refusal)
record_lines listed n (Accepted frame next) = frame_lines n frame

-- the run goes on to the next record, or is over
unfoldable pub following : Record → Course
following End = Closed
following (Stop refusal) = Closed
following (Skip refusal next) = Next next
following (Accepted frame next) = Next next

-- whether more is read first: of a record that is cut short the rest may still come
unfoldable pub waits : Bool → Record → Bool
waits ended End = not ended
waits ended (Stop Length) = false
waits ended (Stop Version) = false
waits ended (Stop Short) = not ended
waits ended (Skip refusal next) = false
waits ended (Accepted frame next) = false

-- what is put of what stands next in the input, where there is room for it
unfoldable pub turn_lines : Bool → ℕ → ℕ → Record → List ℕ
turn_lines ended listed n found = if waits ended found then [] else record_lines listed n found

unfoldable pub turn_course : Bool → Record → Course
turn_course ended found = if waits ended found then Read else following found

-- without room what waits is written first
unfoldable pub course_of : Bool → Bool → Record → Course
course_of room ended found = if room then turn_course ended found else Write
