-- The solve over lent arrays: the eighteen doubles that are read. What the other arrays hold when
-- it returns is `poses_after` and so on of `lent_answers`.
use Rattle.std.specs.Prelude.{List, Float}
use Rattle.frames.specs.Lent.{world_at, bearings_at}
use Rattle.lambdatwist.specs.Solve.{solve}
use Rattle.p3p.specs.Types.{Answer}

-- the input: three world points and then three bearings
unfoldable pub solved : List Float → Answer
solved input = (solve (world_at input 0) (bearings_at input 9)).value
