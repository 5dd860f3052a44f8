-- `by_halving` meets its contract: the root stays between `low` + 1 / 2 and `high` + 1 / 2. Assumes
-- nothing.
use Prim.Native.Nat.{ℕ, ◌+◌, ◌-◌, ◌*◌, ◌^◌, ◌≤◌, ◌<◌}
use mathlib.Core.Path.{◌≡◌, subst}
use native.Mathlib.Omega.{arith}
use Rattle.ieee754_roots.specs.Nearest.{IsNearest, cube_top}
use Rattle.ieee754_roots.proofs.Cubes.{nearest-cube, least, greatest}
use Rattle.ieee754_roots.proofs.cbrt.by_halving.Goals as goal

found : (n low high : ℕ)
    → (low < high) × (high ≤ 2 ^ 53) × (cube_top (2 * low + 1) < n) × (n ≤ cube_top (2 * high + 1))
    → high - low ≤ 1
    → IsNearest 3 (n * 2 ^ 104) high
found n low high h l =
    let e : 2 * low + 1 ≡ 2 * high - 1 = omega arith in
    nearest-cube n high (subst (λ (x : ℕ). cube_top x < n) e h.2) h.3

pub loop-high-init : goal.loop-high-init
loop-high-init c = omega (arith, least, greatest)

pub overflow_sub-high : goal.overflow_sub-high
overflow_sub-high c = omega arith

pub overflow_add-middle : goal.overflow_add-middle
overflow_add-middle c = omega arith

pub overflow_mul-middle : goal.overflow_mul-middle
overflow_mul-middle c = omega arith

pub overflow_add-middle-in-loop-high : goal.overflow_add-middle-in-loop-high
overflow_add-middle-in-loop-high c = omega arith

pub cube_top-requires : goal.cube_top-requires
cube_top-requires c = omega arith

pub loop-high-smaller-then-cube_top-n : goal.loop-high-smaller-then-cube_top-n
loop-high-smaller-then-cube_top-n c = omega arith

pub loop-high-preserved-then-cube_top-n : goal.loop-high-preserved-then-cube_top-n
loop-high-preserved-then-cube_top-n c = omega arith

pub loop-high-smaller : goal.loop-high-smaller
loop-high-smaller c = omega arith

pub loop-high-preserved : goal.loop-high-preserved
loop-high-preserved c = omega arith

pub returns : goal.returns
returns c =
    found c.args.n c.loop-high.low c.loop-high.high
    c.loop-high.invariant c.loop-high-test.false
