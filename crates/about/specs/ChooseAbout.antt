-- The choice among poses about a point: it takes the checking target less that point, one rounding
-- each.
use Rattle.std.specs.Prelude.{ℕ, List}
use Rattle.ieee754.specs.Traced.{Traced, ◌>>=◌}
use Rattle.linalg.specs.Vectors.{vec_sub}
use Rattle.choice.specs.Choose.{choose}
use Rattle.about.specs.Types.{Vector3, Pose, Best, Result}

unfoldable pub choose_about : List Pose → ℕ → Vector3 → Vector3 → Vector3 → Traced (Result Best ℕ)
choose_about poses count origin target bearing = do
  moved ← vec_sub target origin
  choose poses count moved bearing
