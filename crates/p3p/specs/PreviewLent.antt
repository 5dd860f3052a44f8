-- What a moved target would do, over lent memory: what is read, and the squared edges as they are
-- written, in the order of a plate (document 02, §5).
use Rattle.std.specs.Prelude.{ℕ, List, [], ◌∷◌, Float}
use Rattle.frames.specs.Lent.{vector_at, bearings_at}
use Rattle.lent_answers.specs.Plated.{plate_in}
use Rattle.preview.specs.Preview.{preview}
use Rattle.p3p.specs.Types.{SquaredEdges, Shown}

unfoldable pub previewed : List Float → ℕ → ℕ → List Float → List Float → Shown
previewed plate has_inverse target point bearings =
    preview (plate_in plate has_inverse) target (vector_at point 0) (bearings_at bearings 0)

unfoldable pub edge_entries : SquaredEdges → List Float
edge_entries edges = edges.a01 ∷ edges.a02 ∷ edges.a12 ∷ []
