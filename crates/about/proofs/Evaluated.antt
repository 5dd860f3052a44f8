-- The solve about the first target and its choice compute under `unfolding evaluated`. Assumes
-- nothing.
use Rattle.lambdatwist.proofs.Evaluated.{evaluated as solve-evaluated}
use Rattle.choice.proofs.Evaluated.{evaluated as choice-evaluated}
use Rattle.about.specs.Differences.{differences}
use Rattle.about.specs.SolveAbout.{answer_about, with_origin, solve_about}
use Rattle.about.specs.ChooseAbout.{choose_about}

unfoldable pub evaluated : Unit {0}
unfolding solve-evaluated choice-evaluated differences answer_about with_origin
    solve_about choose_about
evaluated = tt
