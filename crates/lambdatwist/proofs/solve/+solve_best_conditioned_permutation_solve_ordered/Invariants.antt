-- With n retries left the ordered solve calls the retry at n - 1, and the retry at n the ordered
-- solve at n, so the measures are 2 * n and 2 * n + 1.
use Rattle.std.proofs.Common.{◌+◌}
use Rattle.lambdatwist.proofs.solve.+solve_best_conditioned_permutation_solve_ordered.Given as goal

abbrev pub decreases-solve_best_conditioned_permutation :
    goal.decreases-solve_best_conditioned_permutation
decreases-solve_best_conditioned_permutation l = l.retries + l.retries + 1

abbrev pub decreases-solve_ordered : goal.decreases-solve_ordered
decreases-solve_ordered l = l.retries + l.retries
