-- The loop of `newton_steps`: what is left of the four steps leads from the present root to where
-- four steps lead from the start.
use Rattle.std.proofs.Common.{◌≡◌, ◌-◌}
use Rattle.cubic_parts.specs.Newton.{newton_steps}
use Rattle.cubic_parts.proofs.newton.newton_steps.Given as goal

abbrev pub invariant-loop : goal.invariant-loop
invariant-loop l =
    (newton_steps (4 - l.counter) l.m l.root).value ≡ (newton_steps 4 l.m l.start).value
