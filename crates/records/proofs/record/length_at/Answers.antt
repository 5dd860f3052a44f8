use Rattle.std.proofs.Common.{◌∙◌}
use Rattle.records.proofs.BigEndian.{read_from}
use Rattle.records.proofs.record.length_at.Goals as goal

pub returns : goal.returns
returns c = c.read_u16.ensures ∙ read_from c.args.s.now c.args.at 2 c.requires
