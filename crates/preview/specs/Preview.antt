-- The preview of a moved target: document 02, §5, "plate, target number, new point and bearings in;
-- out the answer and the squared edges that would be stored, plus zeros if the replacement is
-- refused. The preview equals replacing the target on a copy and solving with that copy, refusals
-- included. Checks: those of the replacement come first, then those of the solve."
use Rattle.std.specs.Prelude.{ℕ, not, eqb, if◌then◌else◌}
use Rattle.lambdatwist.specs.Solve.{refused}
use Rattle.plates.specs.Plate.{zero_edges}
use Rattle.plates.specs.Replace.{replace}
use Rattle.plates.specs.SolvePlate.{solve_plate}
use Rattle.preview.specs.Types.{Vector3, Bearings, SquaredEdges, Answer, Plate, Outcome}
use Rattle.preview.specs.Types.{Shown}

-- the edges of the copy, also where the solve with it is refused
unfoldable pub edges_shown : Outcome → SquaredEdges
edges_shown copy = if not (eqb copy.refusal 0) then zero_edges else copy.plate.edges

unfoldable pub answer_shown : Outcome → Bearings → Answer
answer_shown copy bearings =
    if not (eqb copy.refusal 0) then refused copy.refusal
    else (solve_plate copy.plate bearings).value

unfoldable pub preview : Plate → ℕ → Vector3 → Bearings → Shown
preview plate number point bearings =
    let copy = replace plate number point in
    record { answer = answer_shown copy bearings; edges = edges_shown copy }
