-- `refinement::refine_depths::refine_depths` meets its contract: what is left of the loop gives
-- what the whole does. Assumes nothing.
use Prim.Native.Nat.{◌-◌}
use mathlib.Core.Path.{◌≡◌}
use Rattle.refinement.specs.RefineDepths.{refine_turns}
use Rattle.refinement.proofs.refine_depths.refine_depths.Given as goal

abbrev pub invariant-loop-updates : goal.invariant-loop-updates
invariant-loop-updates l =
    (refine_turns (l.iterations - l.updates) l.refined l.squared_edges l.bearing_cosines l.residual_tolerance l.updates).value
    ≡ (refine_turns l.iterations l.fn.depths l.squared_edges l.bearing_cosines l.residual_tolerance 0).value
