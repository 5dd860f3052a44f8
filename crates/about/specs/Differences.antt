-- The world points less the first of them: document 02, §1, "the first world point is subtracted
-- from all three (one rounding each, so the first becomes plus zero)". That it becomes plus zero is
-- `first-plus-zero` in the proofs.
use Rattle.ieee754.specs.Traced.{Traced, pure, ◌>>=◌}
use Rattle.linalg.specs.Vectors.{vec_sub}
use Rattle.frames.specs.Points.{points}
use Rattle.about.specs.Types.{World}

-- The subtractions are traced: they count among the operations of the scaling rule's premise.
unfoldable pub differences : World → Traced World
differences world = do
  p0 ← vec_sub world.p0 world.p0
  p1 ← vec_sub world.p1 world.p0
  p2 ← vec_sub world.p2 world.p0
  pure (points p0 p1 p2)
