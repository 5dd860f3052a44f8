-- After k turns the first k digits are in place.
use Rattle.std.proofs.Common.{◌≡◌, ◌+◌, ◌-◌, ◌*◌, ◌/◌, ◌^◌, ◌++◌, length}
use Rattle.listing.specs.Digits.{hexadecimal}
use Rattle.listing.proofs.digits.put_word.Given as goal

abbrev pub invariant-loop-place : goal.invariant-loop-place
invariant-loop-place g l = record {
  placed :
      l.out.items
      ≡ l.initial.out.items ++ hexadecimal l.place (l.word / 2 ^ (64 - 4 * l.place));
  value : length l.out.items ≡ length l.initial.out.items + l.place;
}
