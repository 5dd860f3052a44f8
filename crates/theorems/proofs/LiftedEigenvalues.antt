-- Where the pair of eigenvalues was lifted, the solve of that ordering ends in number 3
-- (`lifted-stops`): the two are equal, and so their ratio is not real. Assumes nothing.
use mathlib.Core.Path.{◌≡◌, refl}
use mathlib.Core.Bool.{Bool}
use lib.Dec.{T}
use lib.Ieee.{Float}
use Rattle.ieee754.specs.Traced.{Traced, with_some, ◌>>=◌}
use Rattle.eigen.specs.KnownZero.{eig_with_known_zero}
use Rattle.eigen.proofs.EqualEigenvalues.{EqualValues, lifted-equal}
use Rattle.depths.specs.Matrix.{singular_matrix}
use Rattle.depths.specs.RatioOf.{ratio_of}
use Rattle.depths.specs.Signs.{candidates}
use Rattle.depths.proofs.EqualRatio.{equal-not-real}
use Rattle.lambdatwist.specs.Solve.{refused, stopped, solve_candidates, solve_root}
use Rattle.theorems.specs.LiftedEigenvalues.{is_lifted, eigenvalues_lifted, LiftedStops}
use Rattle.theorems.specs.Types.{Matrix3, Eigensystem, Answer, Option, Some, None}

-- whatever is made of a real ratio
after-system : (o : Option Eigensystem) (after : Matrix3 → Bool → Float → Traced Answer)
    → EqualValues o
    → T (is_lifted o)
    → (with_some o stopped (λ (s : Eigensystem).
    ratio_of s.values.x s.values.y >>= λ ratio.
    with_some ratio stopped (after s.vectors s.lifted))).value
    ≡ refused 3
after-system (Some s) after equal is-lifted =
    rw (
      equal is-lifted,
      equal-not-real s.values.y,
    )
after-system None after equal is-lifted = refl

pub lifted-stops : LiftedStops
unfolding LiftedStops eigenvalues_lifted solve_root
lifted-stops input measured g is-lifted =
    let squares = measured.squares in
    let factors = measured.factors in
    let matrix = (singular_matrix squares factors g).value in
    after-system (eig_with_known_zero matrix).value
    (λ e lifted x.
    candidates squares factors e x lifted >>= λ found. solve_candidates input measured found)
    (lifted-equal matrix) is-lifted
