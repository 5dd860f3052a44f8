-- The lines that were put in the empty buffer are stored.
use Rattle.std.proofs.Common.{arith}
use Rattle.listing_records.proofs.Places.{written_at}
use Rattle.listing_records.proofs.record.put_record.Goals as goal

pub returns-clause-written : goal.returns-clause-written
returns-clause-written c =
    written_at c.store.ensures c.append_record-course.ensures.written c.as_slice.ensures.value
    c.new-lines.ensures (omega arith)
