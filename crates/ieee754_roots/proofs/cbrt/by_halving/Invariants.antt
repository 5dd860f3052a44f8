-- `by_halving` meets its contract: the root stays between `low` + 1 / 2 and `high` + 1 / 2. Assumes
-- nothing.
use Prim.Native.Nat.{◌+◌, ◌-◌, ◌*◌, ◌^◌, ◌≤◌, ◌<◌}
use Rattle.ieee754_roots.specs.Nearest.{cube_top}
use Rattle.ieee754_roots.proofs.cbrt.by_halving.Given as goal

abbrev pub invariant-loop-high : goal.invariant-loop-high
invariant-loop-high l = (l.low < l.high) × (l.high ≤ 2 ^ 53) × (cube_top (2 * l.low + 1) < l.n) × (l.n ≤ cube_top (2 * l.high + 1))

abbrev pub decreases-loop-high : goal.decreases-loop-high
decreases-loop-high l = l.high - l.low
