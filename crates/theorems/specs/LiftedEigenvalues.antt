-- No pose has its mark from the eigenvalues (document 02, §8): where the pair of them was lifted,
-- the solve of that ordering ends in number 3. That it does is `lifted-stops` in the proofs.
use Rattle.std.specs.Prelude.{◌≡◌, Bool, false, T, Float}
use Rattle.eigen.specs.KnownZero.{eig_with_known_zero}
use Rattle.depths.specs.Matrix.{singular_matrix}
use Rattle.lambdatwist.specs.Solve.{refused, solve_root}
use Rattle.theorems.specs.Types.{P3pInput, Measured, Eigensystem, Option, Some, None}

abbrev pub is_lifted : Option Eigensystem → Bool
is_lifted (Some system) = system.lifted
is_lifted None = false

-- at a root g of the cubic: the pair of eigenvalues of the singular matrix was lifted
unfoldable pub eigenvalues_lifted : Measured → Float → Bool
eigenvalues_lifted measured g =
    is_lifted (eig_with_known_zero
    (singular_matrix measured.squares measured.factors g).value).value

unfoldable pub LiftedStops : Type 0
LiftedStops = (input : P3pInput) (measured : Measured) (g : Float)
    → T (eigenvalues_lifted measured g)
    → (solve_root input measured g).value ≡ refused 3
