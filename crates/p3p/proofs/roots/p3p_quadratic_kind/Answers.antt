-- `p3p::roots::p3p_quadratic_kind` meets its contract: the arm of a refusal leaves what the
-- definition says, and the arm of one root is never reached. Assumes nothing.
use mathlib.Core.Path.{refl, sym}
use native.Mathlib.Omega.{arith}
use Rattle.polynomial.proofs.OneAnswer.{quadratic-two}
use Rattle.p3p.proofs.RootsLent.{count_at, as-held, kind-held}
use Rattle.p3p.proofs.roots.p3p_quadratic_kind.Goals as goal

pub returns-in-One : goal.returns-in-One
returns-in-One c =
    let two = count_at (quadratic-two _ _) (sym c.in-One.ensures) refl in
    absurd (omega (arith, two))

pub returns-in-Refused-clause-roots_after : goal.returns-in-Refused-clause-roots_after
returns-in-Refused-clause-roots_after c =
    let e = sym c.in-Refused.ensures in
    rw e (as-held (quadratic-two _ _) _ _ (λ h. omega (arith, h)) e)

pub returns-in-Refused-clause-kind_after : goal.returns-in-Refused-clause-kind_after
returns-in-Refused-clause-kind_after c =
    let e = sym c.in-Refused.ensures in
    rw e (kind-held (quadratic-two _ _) _ _ (λ h. omega (arith, h)) e)
