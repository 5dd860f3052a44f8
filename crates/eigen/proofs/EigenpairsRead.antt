-- The eigensystem that pairs are read of: one whose first two columns and values they are, and no
-- system where there are no pairs. Assumes nothing.
use Rattle.std.proofs.Common.{◌≡◌, refl}
use Rattle.linalg.specs.Matrices.{column0, column1}
use Rattle.eigen.specs.Eigenpairs.{pairs_of}
use Rattle.eigen.specs.Types.{Option, Some, None, Eigensystem, Eigenpairs}

pub record ReadOf (system : Option Eigensystem) (pairs : Eigenpairs) : Type 0 where
  pub found : Eigensystem
  pub is_found : system ≡ Some found
  pub first-column : column0 found.vectors ≡ pairs.column0
  pub second-column : column1 found.vectors ≡ pairs.column1
  pub first-value : found.values.x ≡ pairs.values.first
  pub second-value : found.values.y ≡ pairs.values.second
  pub mark : found.lifted ≡ pairs.values.lifted

pub eigenpairs-some : (system : Option Eigensystem) {pairs : Eigenpairs}
    → Some pairs ≡ pairs_of system
    → ReadOf system pairs
eigenpairs-some (Some found) {pairs} e =
    let own : Eigenpairs = record {
      column0 = column0 found.vectors;
      column1 = column1 found.vectors;
      values = record {
        first = found.values.x;
        second = found.values.y;
        lifted = found.lifted;
      };
    } in
    let same : pairs ≡ own = cc in
    record {
      found = found;
      is_found = refl;
      first-column = rw same;
      second-column = rw same;
      first-value = rw same;
      second-value = rw same;
      mark = rw same;
    }
eigenpairs-some None e = cc

pub eigenpairs-none : (system : Option Eigensystem) → None ≡ pairs_of system → system ≡ None
eigenpairs-none (Some found) e = cc
eigenpairs-none None e = refl
