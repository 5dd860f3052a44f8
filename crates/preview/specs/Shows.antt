-- What a preview shows of any plate, said of its points alone (document 02, §5): the replacement's
-- refusal with plus zeros; or what is known of an answer for the points with the target moved, and
-- their squared edges, whether or not that answer is a refusal. What the plate has stored beside
-- its points plays no part.
use Rattle.std.specs.Prelude.{ℕ, ◌≡◌, not, T, ltb}
use Rattle.linalg.specs.Vectors.{all_finite}
use Rattle.orderings.specs.Edges.{edge_vectors, squared_edges}
use Rattle.lambdatwist.specs.Solve.{refused, solve}
use Rattle.plates.specs.Target.{with_target}
use Rattle.plates.specs.Plate.{zero_edges}
use Rattle.preview.specs.Types.{Vector3, Bearings, World, SquaredEdges, Answer}
use Rattle.preview.specs.Types.{Plate, Shown}

-- "plus zeros if the replacement is refused"
abbrev pub refusal_shown : ℕ → Shown
refusal_shown number = record { answer = refused number; edges = zero_edges }

abbrev pub edges_of : World → SquaredEdges
edges_of world = (squared_edges (edge_vectors world).value).value

-- `Known` is what is known of the answer for the points with the target moved
module _ (Known : World → Answer → Type 0) where
  pub data ShownOf (plate : Plate) (number : ℕ) (point : Vector3) : Shown → Type 0 where
    not_finite : T (not (all_finite point))
        → ShownOf plate number point (refusal_shown 1)
    no-such-target : T (all_finite point)
        → T (ltb 2 number)
        → ShownOf plate number point (refusal_shown 11)
    moved : T (all_finite point)
        → T (not (ltb 2 number))
        → (answer : Answer)
        → Known (with_target plate.world number point) answer
        → ShownOf plate number point
        (record { answer = answer; edges = edges_of (with_target plate.world number point) })

-- the answer is the solve of demand 2; that it holds of every preview is `preview-shows` in the
-- proofs
abbrev pub Shows : Plate → ℕ → Vector3 → Bearings → Shown → Type 0
Shows plate number point bearings =
    ShownOf (λ world answer. answer ≡ (solve world bearings).value) plate number point
