-- What is left of the loop gives what the whole does.
use mathlib.Core.Path.{◌≡◌}
use lib.ListN.{drop}
use Rattle.choice.specs.Choose.{choose_among, choose}
use Rattle.choice.proofs.choose.choose.Given as goal

abbrev pub invariant-loop-at : goal.invariant-loop-at
invariant-loop-at l =
    (choose_among (drop l.at l.pose-items) l.at l.target l.bearing l.best).value
    ≡ (choose l.fn.poses l.count l.target l.bearing).value
