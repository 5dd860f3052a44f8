-- `settled` meets its contract: the cubes say on which side of q - 1 / 2 and q + 1 / 2 the root
-- lies. Assumes nothing.
use Prim.Native.Nat.{ℕ, ◌+◌, ◌-◌, ◌*◌, ◌^◌, ◌≤◌, ◌<◌}
use mathlib.Core.Path.{◌≡◌, ap, ◌∙◌, sym}
use native.Mathlib.Nat.{le_trans, le_of_eq, lt_of_le_of_lt}
use native.Mathlib.Omega.{arith}
use Rattle.ieee754_roots.specs.Nearest.{IsNearest, cube_top}
use Rattle.ieee754_roots.proofs.Cubes.{nearest-cube}
use Rattle.ieee754_roots.proofs.cbrt.settled.Goals as goal

-- from what two calls of `cube_top` gave
between : (n q : ℕ) {a b x y : ℕ}
    → a ≡ cube_top x
    → b ≡ cube_top y
    → x ≡ 2 * q - 1
    → y ≡ 2 * q + 1
    → a < n
    → n ≤ b
    → IsNearest 3 (n * 2 ^ 104) q
between n q e f g h l r =
    nearest-cube n q (lt_of_le_of_lt (le_of_eq (sym (e ∙ ap cube_top g))) l)
    (le_trans r (le_of_eq (f ∙ ap cube_top h)))

pub returns-then-n-cube_top : goal.returns-then-n-cube_top
returns-then-n-cube_top c =
    between c.args.n (c.args.q + 1) c.cube_top.ensures c.cube_top-then-cube_top-n.ensures
    (omega arith) (omega arith) c.if-cube_top-n.true c.if-n-cube_top.true

pub returns-then-cube_top-n-2 : goal.returns-then-cube_top-n-2
returns-then-cube_top-n-2 c =
    between c.args.n c.args.q c.cube_top-else-cube_top-n.ensures c.cube_top.ensures
    (omega arith) (omega arith) c.if-cube_top-n-2.true c.if-cube_top-n.false

pub returns-then-cube_top-n-3 : goal.returns-then-cube_top-n-3
returns-then-cube_top-n-3 c =
    between c.args.n (c.args.q - 1) c.cube_top-else-cube_top-n-2.ensures
    c.cube_top-else-cube_top-n.ensures (omega (arith, c.requires)) (omega (arith, c.requires))
    c.if-cube_top-n-3.true c.if-cube_top-n-2.false
