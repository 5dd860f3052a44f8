use Rattle.std.proofs.Common.{ap, ◌∙◌}
use lib.Ieee.{binary64, of_bits}
use Rattle.records.specs.Format.{double_at}
use Rattle.records.proofs.BigEndian.{read_from}
use Rattle.records.proofs.double.double_at.Goals as goal

pub returns : goal.returns
unfolding double_at
returns c =
    c.from_bits.ensures
    ∙ ap (of_bits binary64) (c.read_u64.ensures ∙ read_from c.args.s.now c.args.at 8 c.requires)
