-- The choice computes under `unfolding evaluated`. Assumes nothing.
use Rattle.frames.proofs.Evaluated.{evaluated as frames-evaluated}
use Rattle.choice.specs.Score.{score}
use Rattle.choice.specs.Choose.{lower, better, choose_among, choose}

unfoldable pub evaluated : Unit {0}
unfolding frames-evaluated score lower better choose_among choose
evaluated = tt
