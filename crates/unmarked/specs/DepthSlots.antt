-- The depth candidates of `solve_ordered` (lambdatwist.rs): four slots and a count. Without
-- marks.
use Rattle.std.specs.Prelude.{◌+◌, ◌&&◌, [], ◌∷◌, nat_lt, slice_set, Float, if◌then◌else◌}
use Rattle.std.specs.Float.Ieee.{lt}
use Rattle.ieee754.specs.Literal.{plus_zero}
use Rattle.linalg.specs.Vectors.{zeros}
use Rattle.unmarked.specs.Types.{Vector3, Candidates}

-- let mut depths = [Vector3::zeros(); 4];
-- let mut depth_count = 0;
unfoldable pub no_candidates : Candidates
no_candidates = record { count = 0; depths = zeros ∷ zeros ∷ zeros ∷ zeros ∷ [] }

-- if depth1 > 0.0 && depth_count < depths.len() { depths[depth_count] = ..; depth_count += 1; },
--     in the other chart of depth0
unfoldable pub push_if_positive : Candidates → Float → Vector3 → Candidates
push_if_positive found depth depths =
    if lt plus_zero depth && nat_lt found.count 4
    then record { count = found.count + 1; depths = slice_set found.depths found.count depths }
    else found
