-- The cycle of calls {solve_ordered, solve_best_conditioned_permutation}. Assumes nothing.
use mathlib.Core.Path.{◌≡◌, sym, ap, ◌∙◌}
use Prim.Native.Nat.{ℕ, ◌-◌}
use native.Mathlib.Omega.{arith}
use Rattle.lambdatwist.specs.LentSlots.{held}
use Rattle.lambdatwist.specs.Solve.{solve_best_conditioned_permutation, best_or, solve_ordered}
use Rattle.lambdatwist.specs.Solve.{if_kept}
use Rattle.lambdatwist.proofs.Retries.{out-of-retries, retried, usable}
use Rattle.lambdatwist.proofs.solve.+solve_best_conditioned_permutation_solve_ordered.Goals as goal

-- ---- the retry
pub solve_best_conditioned_permutation-returns-then-best :
    goal.solve_best_conditioned_permutation-returns-then-best
unfolding solve_best_conditioned_permutation best_or
solve_best_conditioned_permutation-returns-then-best t c =
    rw (← c.best_permutation-best.ensures, c.if-best.true, ← c.refused.ensures)

pub solve_best_conditioned_permutation-returns : goal.solve_best_conditioned_permutation-returns
unfolding solve_best_conditioned_permutation best_or
solve_best_conditioned_permutation-returns t c =
    rw (← c.best_permutation-best.ensures, c.if-best.false) c.solve_ordered.ensures

-- ---- the ordered solve
pub solve_ordered-returns-then-retries-gt0 : goal.solve_ordered-returns-then-retries-gt0
solve_ordered-returns-then-retries-gt0 t c =
    c.solve_best_conditioned_permutation.ensures
    ∙ retried c.args.input c.args.world c.args.bearings c.measure-measured.ensures
    c.measured_cubic-cubic.ensures
    (c.args.retries - 1) (sym c.is_unusable.ensures ∙ c.if-is_unusable.true)
    ∙ ap (λ (n : ℕ). (solve_ordered n c.args.input c.args.world c.args.bearings).value)
    (omega arith)

pub solve_ordered-returns-else-retries-gt0 : goal.solve_ordered-returns-else-retries-gt0
solve_ordered-returns-else-retries-gt0 t c =
    let none : c.args.retries ≡ 0 = omega arith in
    rw (c.refused.ensures, none)
    (out-of-retries c.args.input c.args.world c.args.bearings c.measure-measured.ensures
    c.measured_cubic-cubic.ensures
    (sym c.is_unusable.ensures ∙ c.if-is_unusable.true))

pub solve_ordered-if_kept-requires : goal.solve_ordered-if_kept-requires
unfolding held
solve_ordered-if_kept-requires t c = rw c.held.ensures c.solve_cubic-count.ensures.few

pub solve_ordered-returns : goal.solve_ordered-returns
solve_ordered-returns t c =
    c.if_kept.ensures
    ∙ ap if_kept c.held.ensures
    ∙ c.solve_cubic-count.ensures.same
    ∙ usable c.args.input c.args.world c.args.bearings c.measure-measured.ensures
    c.measured_cubic-cubic.ensures
    c.args.retries (sym c.is_unusable.ensures ∙ c.if-is_unusable.false)
