-- One retry is enough: with more allowed the answer is the same (`one-retry`), since a retry starts
-- from the input as it was given and so comes upon the same best ordering. Assumes nothing.
use Rattle.std.specs.Prelude.{if◌then◌else◌}
use Prim.Native.Nat.{ℕ, zero, suc}
use mathlib.Core.Path.{◌≡◌, refl, sym, ◌∙◌}
use mathlib.Core.Bool.{Bool, true, false}
use lib.Ieee.{binary64, mul, le}
use Rattle.ieee754.specs.Literal.{sixty_four, epsilon}
use Rattle.ieee754.specs.Traced.{Traced, pure}
use Rattle.ieee754_laws.proofs.Degrees.{choose}
use Rattle.orderings.specs.Measure.{measure, measured_cubic}
use Rattle.orderings.specs.Cubic.{is_unusable}
use Rattle.orderings.specs.Permutation.{best_permutation}
use Rattle.lambdatwist.specs.Solve.{refused, solve_cubic, ordered_or, best_or, solve_ordered}
use Rattle.theorems.specs.Types.{World, Bearings, P3pInput, Measured, Coefficients, Answer}

abbrev Same : Traced Answer → Traced Answer → Type 0
Same a b = a.value ≡ b.value

-- The best ordering with a retry left is the best ordering with none: where it is unusable, the
-- retry answers what it would have answered itself.
again : (low unusable : Bool) (two goes_on retry ordered last : Traced Answer)
    → Same ordered (if unusable then retry else goes_on)
    → Same last (if unusable then two else goes_on)
    → Same retry (if low then two else last)
    → Same (if low then two else ordered) (if low then two else last)
again true unusable two goes_on retry ordered last ordered-so last-so retry-so = refl
again false true two goes_on retry ordered last ordered-so last-so retry-so =
    ordered-so ∙ retry-so
again false false two goes_on retry ordered last ordered-so last-so retry-so =
    ordered-so ∙ sym last-so

module _ (input : P3pInput) where
  -- retries beyond the first change nothing
  retries-alike : (n : ℕ) → Same (best_or (solve_ordered n) input) (best_or (solve_ordered 0) input)
  unfolding solve_ordered ordered_or best_or
  retries-alike zero = refl
  retries-alike (suc n) =
      let best = (best_permutation input).value in
      let measured : Measured = (measure best.world best.bearings).value in
      let cubic : Coefficients = (measured_cubic measured).value in
      again (le best.condition (mul binary64 sixty_four epsilon)) (is_unusable cubic).value
      (pure (refused 2)) (solve_cubic input measured cubic) (best_or (solve_ordered n) input)
      (solve_ordered (suc n) input best.world best.bearings)
      (solve_ordered 0 input best.world best.bearings)
      refl refl (retries-alike n)

  pub one-retry : (n : ℕ) (world : World) (bearings : Bearings)
      → Same (solve_ordered (suc n) input world bearings) (solve_ordered 1 input world bearings)
  unfolding solve_ordered ordered_or
  one-retry n world bearings =
      let measured : Measured = (measure world bearings).value in
      let cubic : Coefficients = (measured_cubic measured).value in
      choose Same (refl {a = (is_unusable cubic).value}) (retries-alike n)
      (refl {a = (solve_cubic input measured cubic).value})
