-- The ordered solve by what its stages give: an ordering that is unusable is refused where no retry
-- is left, and else retried; a usable one goes on to the cubic. Assumes nothing.
use mathlib.Core.Path.{◌≡◌}
use mathlib.Core.Bool.{true, false}
use Prim.Native.Nat.{ℕ, zero, suc}
use Rattle.orderings.specs.Measure.{measure, measured_cubic}
use Rattle.orderings.specs.Cubic.{is_unusable}
use Rattle.lambdatwist.specs.Solve.{refused, ordered_or, solve_cubic, solve_ordered}
use Rattle.lambdatwist.specs.Solve.{solve_best_conditioned_permutation}
use Rattle.lambdatwist.specs.Types.{World, Bearings, P3pInput, Measured, Coefficients}

module _
    (input : P3pInput)
    (world : World)
    (bearings : Bearings)
    {measured : Measured}
    {cubic : Coefficients}
    (measured-so : measured ≡ (measure world bearings).value)
    (cubic-so : cubic ≡ (measured_cubic measured).value)
  where
    pub out-of-retries : (is_unusable cubic).value ≡ true
        → refused 2 ≡ (solve_ordered 0 input world bearings).value
    unfolding solve_ordered ordered_or
    out-of-retries h = rw (← measured-so, ← cubic-so, h)

    pub retried : (n : ℕ)
        → (is_unusable cubic).value ≡ true
        → (solve_best_conditioned_permutation n input).value
        ≡ (solve_ordered (suc n) input world bearings).value
    unfolding solve_ordered ordered_or solve_best_conditioned_permutation
    retried n h = rw (← measured-so, ← cubic-so, h)

    pub usable : (n : ℕ)
        → (is_unusable cubic).value ≡ false
        → (solve_cubic input measured cubic).value ≡ (solve_ordered n input world bearings).value
    unfolding solve_ordered ordered_or
    usable zero h = rw (← measured-so, ← cubic-so, h)
    usable (suc n) h = rw (← measured-so, ← cubic-so, h)
