-- The refinement with n turns makes at most n updates. Assumes nothing.
use Prim.Native.Nat.{ℕ, zero, suc, ◌+◌, ◌≤◌}
use native.Mathlib.Omega.{arith}
use lib.Ieee.{Float}
use Rattle.ieee754.specs.Traced.{Traced, pure, with_some}
use Rattle.refinement.specs.RefineDepths.{depth_step, refine_turns, refine_depths}
use Rattle.refinement.specs.Types.{Vector3, SquaredEdges, Cosines, Refined, Option, Some, None}

-- ---- the updates of a refinement
module _ (squares : SquaredEdges) (cosines : Cosines) where
  turns-few : (n : ℕ) (d : Vector3) (tolerance : Float) (u : ℕ)
      → (refine_turns n d squares cosines tolerance u).value.updates ≤ u + n
  unfolding refine_turns
  turns-few zero d tolerance u = omega arith
  turns-few (suc n) d tolerance u =
      go (depth_step d squares cosines tolerance).value (λ v. turns-few n v tolerance (u + 1))
    where
      rest_from : Vector3 → Traced Refined
      rest_from v = refine_turns n v squares cosines tolerance (u + 1)

      go : (step : Option Vector3)
          → ((v : Vector3) → (rest_from v).value.updates ≤ u + 1 + n)
          → (with_some step (pure (record { depths = d; updates = u })) rest_from).value.updates
          ≤ u + suc n
      go None rest = omega arith
      go (Some v) rest = let r = rest v in omega arith

  pub updates-few : (d : Vector3) (n : ℕ) → (refine_depths d squares cosines n).value.updates ≤ n
  unfolding refine_depths
  updates-few d n =
      let h : (refine_depths d squares cosines n).value.updates ≤ 0 + n = turns-few n d _ 0 in
      omega arith
