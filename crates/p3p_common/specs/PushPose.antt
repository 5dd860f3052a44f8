-- A pose appended to the solutions where the gate lets it by (push_pose_with_cheirality of
-- pose/p3p/common.rs, as push_edge_basis_pose_from_positive_depths calls it).
use Rattle.std.specs.Prelude.{ℕ, Bool}
use Rattle.ieee754.specs.Traced.{Traced, pure, ◌>>=◌}
use Rattle.p3p_common.specs.Types.{Vector3, Matrix3, P3pInput, Gated, Passed, Projected}
use Rattle.p3p_common.specs.Types.{Dropped, Solutions}
use Rattle.p3p_common.specs.Gate.{gate}
use Rattle.p3p_common.specs.Slots.{push}

-- output.push(pose)
unfoldable pub push_gated : Solutions → Gated → ℕ → Bool → Solutions
push_gated output (Passed pose) updates lifted = push output pose updates lifted
push_gated output (Projected pose) updates lifted = push output pose updates lifted
push_gated output Dropped updates lifted = output

unfoldable pub push_pose : P3pInput → Solutions → Matrix3 → Vector3 → ℕ → Bool → Traced Solutions
push_pose input output raw_rotation translation updates lifted = do
  gated ← gate input raw_rotation translation
  pure (push_gated output gated updates lifted)
