-- The loop of the refinement at one turn: it stops there, goes on, or has made all its turns.
-- Assumes nothing.
use Prim.Native.Nat.{ℕ, suc, ◌-◌, ◌+◌, ◌≤◌, ◌<◌}
use native.Mathlib.Omega.{arith}
use mathlib.Core.Path.{◌≡◌}
use lib.Ieee.{Float}
use Rattle.refinement.specs.Types.{Vector3, SquaredEdges, Cosines, Some, None}
use Rattle.refinement.specs.RefineDepths.{depth_step, refine_turns}

module _ (depths : Vector3) (squares : SquaredEdges) (cosines : Cosines) (tolerance : Float)
    (n u : ℕ) where
  pub turns_stop : u < n
      → (depth_step depths squares cosines tolerance).value ≡ None
      → (refine_turns (n - u) depths squares cosines tolerance u).value
      ≡ record { depths = depths; updates = u }
  unfolding refine_turns
  turns_stop h e = let left : n - u ≡ suc (n - (u + 1)) = omega arith in rw (left, e)

  pub turns_go : (next : Vector3)
      → u < n
      → (depth_step depths squares cosines tolerance).value ≡ Some next
      → (refine_turns (n - u) depths squares cosines tolerance u).value
      ≡ (refine_turns (n - (u + 1)) next squares cosines tolerance (u + 1)).value
  unfolding refine_turns
  turns_go next h e = let left : n - u ≡ suc (n - (u + 1)) = omega arith in rw (left, e)

  pub turns_end : n ≤ u
      → (refine_turns (n - u) depths squares cosines tolerance u).value
      ≡ record { depths = depths; updates = u }
  unfolding refine_turns
  turns_end h = let left : n - u ≡ 0 = omega arith in rw left
