-- SolverP3pSolutions of pose/p3p/common.rs, an ArrayVec of at most four poses: four slots and a
-- count, the updates that each pose's depths took, and whether a pair of roots that it came from
-- was lifted (document 02, §8). Slots beyond the count hold plus zeros, 0, and no mark.
use Rattle.std.specs.Prelude.{ℕ, ◌+◌, Bool, false, [], ◌∷◌, ltb, set, if◌then◌else◌}
use Rattle.frames.specs.Poses.{zero_pose}
use Rattle.p3p_common.specs.Types.{Pose, Solutions}

-- SolverP3pSolutions::default
unfoldable pub empty : Solutions
empty = record {
  count = 0;
  poses = zero_pose ∷ zero_pose ∷ zero_pose ∷ zero_pose ∷ [];
  updates = 0 ∷ 0 ∷ 0 ∷ 0 ∷ [];
  lifted = false ∷ false ∷ false ∷ false ∷ [];
}

-- SolverP3pSolutions::push: a fifth pose is dropped
unfoldable pub push : Solutions → Pose → ℕ → Bool → Solutions
push solutions pose updates lifted =
    if ltb solutions.count 4 then record {
      count = solutions.count + 1;
      poses = set solutions.poses solutions.count pose;
      updates = set solutions.updates solutions.count updates;
      lifted = set solutions.lifted solutions.count lifted;
    }
    else solutions
