-- No more records differ than were compared.
use Rattle.std.proofs.Common.{◌≤◌}
use Rattle.replay.proofs.count.Given as goal

abbrev pub invariant-loop-compared : goal.invariant-loop-compared
invariant-loop-compared g l = l.differ ≤ l.compared
