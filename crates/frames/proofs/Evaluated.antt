-- The camera point and the test of a world compute under `unfolding evaluated`. Assumes nothing.
use Rattle.linalg.proofs.Evaluated.{evaluated as vectors-evaluated}
use Rattle.frames.specs.Points.{world_finite}
use Rattle.frames.specs.Poses.{camera_point}

unfoldable pub evaluated : Unit {0}
unfolding vectors-evaluated world_finite camera_point
evaluated = tt
