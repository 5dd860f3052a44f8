-- The choice of `solve_best_conditioned_permutation` (lambdatwist.rs) by the squared edges that a
-- plate has stored: they serve every ordering.
use Rattle.std.specs.Prelude.{[], ◌∷◌}
use Rattle.ieee754.specs.Traced.{Traced, pure, ◌>>=◌}
use Rattle.frames.specs.Points.{rays}
use Rattle.orderings.specs.Condition.{condition_of_edges}
use Rattle.orderings.specs.Permutation.{best_of}
use Rattle.plates.specs.Target.{ray, opposite}
use Rattle.plates.specs.Types.{Bearings, SquaredEdges, Ordering, Permutation, Target}
use Rattle.plates.specs.Types.{First, Second, Third}

-- ---- permutation.map(|index| input.bearings[index])
unfoldable pub ordered_rays : Bearings → Permutation → Bearings
ordered_rays bearings order =
    rays (ray bearings order.0) (ray bearings order.1) (ray bearings order.2)

-- the edge between the first and the second is opposite to the third
unfoldable pub ordered_edges : SquaredEdges → Permutation → SquaredEdges
ordered_edges edges order = record {
  a01 = opposite edges order.2;
  a02 = opposite edges order.1;
  a12 = opposite edges order.0;
}

unfoldable pub ordering : SquaredEdges → Bearings → Permutation → Traced Ordering
ordering edges bearings order = do
  condition ← condition_of_edges (ordered_edges edges order) (ordered_rays bearings order)
  pure (record { condition = condition; order = order })

-- ---- the best of them
abbrev pub permutation : Target → Target → Target → Permutation
permutation i j k = record { 0 = i; 1 = j; 2 = k }

-- for permutation in [[0, 2, 1], [1, 0, 2], [1, 2, 0], [2, 0, 1], [2, 1, 0]] { .. }
unfoldable pub best_ordering : SquaredEdges → Bearings → Traced Ordering
best_ordering edges bearings = do
  c021 ← ordering edges bearings (permutation First Third Second)
  c102 ← ordering edges bearings (permutation Second First Third)
  c120 ← ordering edges bearings (permutation Second Third First)
  c201 ← ordering edges bearings (permutation Third First Second)
  c210 ← ordering edges bearings (permutation Third Second First)
  pure (best_of (λ o. o.condition) c021 (c102 ∷ c120 ∷ c201 ∷ c210 ∷ []))
