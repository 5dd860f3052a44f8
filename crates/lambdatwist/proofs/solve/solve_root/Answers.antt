-- The pairs are those of the eigensystem that the definition finds, and there are none where it
-- finds none.
use Rattle.std.proofs.Common.{sym, ◌∙◌}
use Rattle.eigen.specs.KnownZero.{eig_with_known_zero}
use Rattle.eigen.proofs.EigenpairsRead.{eigenpairs-some, eigenpairs-none}
use Rattle.depths.proofs.CandidateCount.{candidates-count}
use Rattle.lambdatwist.specs.Solve.{solve_root}
use Rattle.lambdatwist.proofs.Filling.{stops}
use Rattle.lambdatwist.proofs.solve.solve_root.Goals as goal

pub returns-in_default : goal.returns-in_default
unfolding solve_root
returns-in_default c =
    let matrix = c.singular_matrix-matrix in
    let pairs = c.eigenpairs_with_known_zero in
    rw (
      ← matrix.ensures,
      eigenpairs-none (eig_with_known_zero matrix.result).value
          (sym c.in_default.is ∙ pairs.ensures),
    ) (stops _ _ _)

pub returns-in_default-ratio_of : goal.returns-in_default-ratio_of
unfolding solve_root
returns-in_default-ratio_of c =
    let read =
    eigenpairs-some (eig_with_known_zero c.singular_matrix-matrix.result).value
    (sym c.in-Some.is ∙ c.eigenpairs_with_known_zero.ensures) in
    rw (
      ← c.singular_matrix-matrix.ensures,
      read.is_found,
      read.first-value,
      read.second-value,
      ← c.ratio_of.ensures,
      c.in_default-ratio_of.is,
    ) (stops _ _ _)

pub solve_candidates-requires-clause-count_bound : goal.solve_candidates-requires-clause-count_bound
solve_candidates-requires-clause-count_bound c =
    let read =
    eigenpairs-some (eig_with_known_zero c.singular_matrix-matrix.result).value
    (sym c.in-Some.is ∙ c.eigenpairs_with_known_zero.ensures) in
    rw (c.candidates-found.ensures read.found.vectors read.first-column read.second-column)
    (candidates-count _ _ _ _ _)

pub returns : goal.returns
unfolding solve_root
returns c =
    let read =
    eigenpairs-some (eig_with_known_zero c.singular_matrix-matrix.result).value
    (sym c.in-Some.is ∙ c.eigenpairs_with_known_zero.ensures) in
    rw (
      ← c.singular_matrix-matrix.ensures,
      read.is_found,
      read.first-value,
      read.second-value,
      read.mark,
      ← c.ratio_of.ensures,
      c.in-Some-ratio_of.is,
      ← c.candidates-found.ensures read.found.vectors read.first-column read.second-column,
    ) c.solve_candidates.ensures
