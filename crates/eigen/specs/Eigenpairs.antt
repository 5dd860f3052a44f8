-- What the solve reads of `eig_with_known_zero` (lambdatwist.rs): the first two columns of the
-- eigenvectors, their eigenvalues, and whether these were lifted.
use Rattle.linalg.specs.Matrices.{column0, column1}
use Rattle.eigen.specs.Types.{Option, Some, None, Eigensystem, Eigenpairs}

abbrev pub pairs_of : Option Eigensystem → Option Eigenpairs
pairs_of (Some system) =
    Some (record {
      column0 = column0 system.vectors;
      column1 = column1 system.vectors;
      values = record {
        first = system.values.x;
        second = system.values.y;
        lifted = system.lifted;
      };
    })
pairs_of None = None
