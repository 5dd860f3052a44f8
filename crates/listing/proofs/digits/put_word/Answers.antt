use Rattle.std.proofs.Common.{rules, ◌∙◌, arith}
use Rattle.listing.specs.Digits.{hexadecimal}
use Rattle.listing.proofs.Hexadecimal.{one_more}
use Rattle.listing.proofs.digits.put_word.Goals as goal

pub loop-place-init : goal.loop-place-init
unfolding hexadecimal
loop-place-init g c = record { placed = search rules; value = omega arith }

pub loop-place-preserved : goal.loop-place-preserved
loop-place-preserved g c = record {
  placed =
      c.push.ensures.items
      ∙ one_more _ _ c.loop-place.place c.args.word _ (search rules) c.loop-place.invariant.placed
      c.glyph.ensures;
  value = search rules;
}
