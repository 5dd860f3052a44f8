-- `p3p::roots::p3p_cubic` meets its contract: the arm of a refusal leaves what the definition says,
-- and the arm of a pair is never reached. Assumes nothing.
use mathlib.Core.Path.{sym}
use native.Mathlib.Omega.{arith}
use Rattle.polynomial.proofs.OneAnswer.{cubic-one}
use Rattle.p3p.proofs.RootsLent.{count_at, as-held, no-cubic-pair}
use Rattle.p3p.proofs.roots.p3p_cubic.Goals as goal

pub returns-in-Refused-clause-root_after : goal.returns-in-Refused-clause-root_after
returns-in-Refused-clause-root_after c =
    let e = sym c.in-Refused.ensures in
    rw e (as-held (cubic-one _ _ _) _ _ (λ h. omega (arith, h)) e)

pub returns-in_default : goal.returns-in_default
returns-in_default c =
    let found = c.polished_cubic_root in
    let one = count_at (cubic-one _ _ _) (sym found.ensures) in
    absurd (no-cubic-pair found.result c.in_default.not-One c.in_default.not-Refused one)
