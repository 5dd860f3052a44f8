-- `is_nearest` meets its contract: n * 2 ^ 52 is q * (q - 1) and a rest from 1 to 2 * q. Assumes
-- nothing.
use Rattle.std.proofs.Common.{◌≡◌, ℕ, ◌+◌, ◌-◌, ◌*◌, ◌^◌, ◌≤◌, ◌<◌, ap, ◌∙◌, arith, ltb-true, leb-true}
use native.Mathlib.Nat.{mul-suc}
use Rattle.ieee754_parts.proofs.Tests.{both}
use Rattle.ieee754_roots.specs.Nearest.{IsNearest}
use Rattle.ieee754_roots.proofs.Squares.{nearest-square}
use Rattle.ieee754_roots.proofs.sqrt.is_nearest.Goals as goal

-- by the rest t of n
by-rest : (n q t : ℕ)
    → 0 < q
    → t + q * (q - 1) ≡ n
    → 0 < t
    → t ≤ 2 * q
    → IsNearest 2 n q
by-rest n q t p e lo hi =
    let square : q * q ≡ q * (q - 1) + q =
    ap (λ (x : ℕ). q * x) (omega arith) ∙ mul-suc q (q - 1) in
    nearest-square n q (omega arith) (omega arith)

pub returns-in-Some : goal.returns-in-Some
returns-in-Some c = λ e.
    let t = both e in
    by-rest (c.args.n * 2 ^ 52) c.args.q c.in-Some.rest (omega (arith, c.requires))
    (omega (arith, c.in-Some.ensures, c.product.ensures)) (ltb-true _ _ t.0) (leb-true _ _ t.1)
