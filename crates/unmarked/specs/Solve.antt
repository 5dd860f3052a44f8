-- The solve of eighteen doubles: `solve_ordered`, `solve_best_conditioned_permutation`, and
-- `solve_validated` with `solve_solver_minimal` as `solve`, of lambdatwist.rs, with the refusals of
-- document 01. An ordering is solved with an allowance of retries; where it is unusable and one is
-- left, the best conditioned of the other orderings is solved with one less. Without marks.
use Rattle.std.specs.Prelude.{ℕ, zero, suc, not, ◌==◌, Float, if◌then◌else◌}
use Rattle.std.specs.Float.Ieee.{le}
use Rattle.ieee754.specs.Literal.{sixty_four, epsilon}
use Rattle.ieee754.specs.Traced.{Traced, pure, with_some, ◌>>=◌, ◌⊗◌, ◌⊘◌, !◌}
use Rattle.polynomial.specs.Answer.{with_root}
use Rattle.polynomial.specs.PolishedRoot.{polished_cubic_root}
use Rattle.p3p_common.specs.Input.{input_finite}
use Rattle.orderings.specs.Basis.{basis_of}
use Rattle.orderings.specs.Measure.{measure, measured_cubic}
use Rattle.orderings.specs.Cubic.{is_unusable}
use Rattle.depths.specs.Matrix.{singular_matrix}
use Rattle.depths.specs.RatioOf.{ratio_of}
use Rattle.orderings.specs.Permutation.{best_permutation}
use Rattle.unmarked.specs.KnownZero.{with_system, eig_with_known_zero}
use Rattle.unmarked.specs.Signs.{candidates}
use Rattle.unmarked.specs.Slots.{empty}
use Rattle.unmarked.specs.Poses.{poses}
use Rattle.unmarked.specs.Types.{World, Bearings, P3pInput, Solutions, Measured}
use Rattle.unmarked.specs.Types.{Coefficients, Candidates, Answer}

-- ---- an answer: number 0 with the poses that were kept, or a refusal's number with count 0 and
--      plus zeros
unfoldable pub answered : ℕ → Solutions → Answer
answered number solutions = record {
  refusal = number;
  count = solutions.count;
  poses = solutions.poses;
  updates = solutions.updates;
}

unfoldable pub refused : ℕ → Answer
refused number = answered number empty

-- question 3 of document 01: was a pose kept?
unfoldable pub if_kept : Solutions → Answer
if_kept solutions = if solutions.count == 0 then refused 3 else answered 0 solutions

-- a step that stops ends the solve with 3
abbrev pub stopped : Traced Answer
stopped = pure (refused 3)

-- ---- the stages of `solve_ordered`, from the last to the first

-- let Some(world_inverse) = world_basis_inverse(d01, d02) else { .. }, and the poses (`basis_of` is
-- since document 02, §4)
unfoldable pub solve_candidates : P3pInput → Measured → Candidates → Traced Answer
solve_candidates input measured found = do
  basis ← basis_of measured.source
  with_some basis stopped (λ world_inverse. do
    solutions ← poses input measured world_inverse found
    pure (if_kept solutions))

-- from `let matrix = ..` on
unfoldable pub solve_root : P3pInput → Measured → Float → Traced Answer
solve_root input measured g = do
  matrix ← singular_matrix measured.squares measured.factors g
  system ← eig_with_known_zero matrix
  with_system system stopped (λ eigenvectors eigenvalues. do
    ratio ← ratio_of eigenvalues.x eigenvalues.y
    with_some ratio stopped (λ real. do
      found ← candidates measured.squares measured.factors eigenvectors real
      solve_candidates input measured found))

-- let Some(g) = polished_cubic_root(cubic2 / cubic3, cubic1 / cubic3, cubic0 / cubic3) else { .. }
unfoldable pub solve_cubic : P3pInput → Measured → Coefficients → Traced Answer
solve_cubic input measured c = do
  c2 ← ! c.cubic2 ⊘ ! c.cubic3
  c1 ← ! c.cubic1 ⊘ ! c.cubic3
  c0 ← ! c.cubic0 ⊘ ! c.cubic3
  root ← polished_cubic_root c2 c1 c0
  with_root root stopped (solve_root input measured)

-- the ordered solve of the points and bearings in some order, with what is done where that ordering
-- is unusable
unfoldable pub ordered_or : (P3pInput → Traced Answer) → P3pInput → World → Bearings → Traced Answer
ordered_or retry input world bearings = do
  measured ← measure world bearings
  cubic ← measured_cubic measured
  unusable ← is_unusable cubic
  if unusable then retry input else solve_cubic input measured cubic

-- ---- the retry
-- if condition <= 64.0 * f64::EPSILON { .. }
-- solve_ordered(input, world, bearings, false)
unfoldable pub best_or : (P3pInput → World → Bearings → Traced Answer) → P3pInput → Traced Answer
best_or ordered input = do
  best ← best_permutation input
  limit ← ! sixty_four ⊗ ! epsilon
  if le best.condition limit then pure (refused 2)
      else ordered input best.world best.bearings

-- with n retries left. The retry is written out as `best_or`, since a definition may call itself
-- only with a smaller number.
unfoldable pub solve_ordered : ℕ → P3pInput → World → Bearings → Traced Answer
solve_ordered zero input world bearings = ordered_or (λ input. pure (refused 2)) input world bearings
solve_ordered (suc n) input world bearings = ordered_or (best_or (solve_ordered n)) input world bearings

-- ---- the solve: question 1 of document 01, then the given ordering with one retry
unfoldable pub solve : World → Bearings → Traced Answer
solve world bearings =
    let input : P3pInput = record { world = world; bearings = bearings } in
    if not (input_finite input) then pure (refused 1) else solve_ordered 1 input world bearings
