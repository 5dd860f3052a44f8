-- The depth candidates of `solve_ordered` (lambdatwist.rs): four slots and a count. The Rust's slot
-- is three depths; here it has a mark too.
use Rattle.std.specs.Prelude.{◌+◌, Bool, false, ◌&&◌, ◌||◌, [], ◌∷◌, ltb, set, Float, if◌then◌else◌}
use Rattle.std.specs.Float.Ieee.{lt}
use Rattle.ieee754.specs.Literal.{plus_zero}
use Rattle.linalg.specs.Vectors.{zeros}
use Rattle.depths.specs.Types.{Vector3, Candidate, Candidates}

-- let mut depths = [Vector3::zeros(); 4];
-- let mut depth_count = 0;
-- with whether the eigenvalues were lifted
unfoldable pub no_candidates : Bool → Candidates
no_candidates lifted =
    let empty : Candidate = record { depths = zeros; lifted = false } in
    record { lifted = lifted; count = 0; slots = empty ∷ empty ∷ empty ∷ empty ∷ [] }

-- a candidate of a pair of depth ratios that was lifted or not: it is marked also where the
-- eigenvalues were
unfoldable pub candidate : Candidates → Vector3 → Bool → Candidate
candidate found depths lifted = record { depths = depths; lifted = found.lifted || lifted }

-- if depth1 > 0.0 && depth_count < depths.len() { depths[depth_count] = ..; depth_count += 1; },
--     in the other chart of depth0
unfoldable pub push_if_positive : Candidates → Float → Vector3 → Bool → Candidates
push_if_positive found depth depths lifted =
    if lt plus_zero depth && ltb found.count 4
    then record {
      lifted = found.lifted;
      count = found.count + 1;
      slots = set found.slots found.count (candidate found depths lifted);
    }
    else found
