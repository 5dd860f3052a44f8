-- SolverP3pSolutions of pose/p3p/common.rs, an ArrayVec of at most four poses: four slots and a
-- count, and the updates that each pose's depths took. Slots beyond the count hold plus zeros and
-- 0. A pose is appended where the gate lets it by (push_pose_with_cheirality, as
-- push_edge_basis_pose_from_positive_depths calls it). Without marks.
use Rattle.std.specs.Prelude.{ℕ, ◌+◌, [], ◌∷◌, nat_lt, slice_set, if◌then◌else◌}
use Rattle.ieee754.specs.Traced.{Traced, pure, ◌>>=◌}
use Rattle.frames.specs.Poses.{zero_pose}
use Rattle.p3p_common.specs.Gate.{gate}
use Rattle.unmarked.specs.Types.{Vector3, Matrix3, Pose, P3pInput, Gated, Passed, Projected}
use Rattle.unmarked.specs.Types.{Dropped, Solutions}

-- SolverP3pSolutions::default
unfoldable pub empty : Solutions
empty = record {
  count = 0;
  poses = zero_pose ∷ zero_pose ∷ zero_pose ∷ zero_pose ∷ [];
  updates = 0 ∷ 0 ∷ 0 ∷ 0 ∷ [];
}

-- SolverP3pSolutions::push: a fifth pose is dropped
unfoldable pub push : Solutions → Pose → ℕ → Solutions
push solutions pose updates =
    if nat_lt solutions.count 4 then record {
      count = solutions.count + 1;
      poses = slice_set solutions.poses solutions.count pose;
      updates = slice_set solutions.updates solutions.count updates;
    }
    else solutions

-- output.push(pose)
unfoldable pub push_gated : Solutions → Gated → ℕ → Solutions
push_gated output (Passed pose) updates = push output pose updates
push_gated output (Projected pose) updates = push output pose updates
push_gated output Dropped updates = output

unfoldable pub push_pose : P3pInput → Solutions → Matrix3 → Vector3 → ℕ → Traced Solutions
push_pose input output raw_rotation translation updates = do
  gated ← gate input raw_rotation translation
  pure (push_gated output gated updates)
