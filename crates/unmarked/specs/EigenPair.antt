-- The two eigenvalues that are not known: the second part of `eig_with_known_zero`
-- (lambdatwist.rs). They are the roots of a quadratic, the greater in magnitude first; a
-- quadratic's refusal ends the solve. Without a mark.
use Rattle.std.specs.Prelude.{◌||◌, Float, if◌then◌else◌}
use Rattle.std.specs.Float.Ieee.{lt, eq}
use Rattle.ieee754.specs.Literal.{plus_zero}
use Rattle.ieee754.specs.Magnitude.{abs}
use Rattle.ieee754.specs.Traced.{Traced, pure, ◌>>=◌, ⊝◌}
use Rattle.linalg.specs.Matrices.{trace}
use Rattle.eigen.specs.EigenPair.{pair_coefficient}
use Rattle.unmarked.specs.Quadratic.{with_pair, quadratic_real_monic}
use Rattle.unmarked.specs.Types.{Matrix3, Eigenvalues, Pair, NoPair}

-- ---- what follows the eigenvalues: what `k` makes of the two, and `none` where there is no pair
abbrev pub with_eigenvalues : {A : Type 0}
    → Eigenvalues
    → Traced A
    → (Float → Float → Traced A)
    → Traced A
with_eigenvalues (Pair first_value second_value) none k = k first_value second_value
with_eigenvalues NoPair none k = none

-- if first_value == 0.0 || second_value == 0.0 { return None; }
unfoldable pub nonzero_pair : Float → Float → Eigenvalues
nonzero_pair first_value second_value =
    if eq first_value plus_zero || eq second_value plus_zero then NoPair
    else Pair first_value second_value

-- if first_value.abs() < second_value.abs() {
--     std::mem::swap(&mut first_value, &mut second_value); }
unfoldable pub by_magnitude : Float → Float → Eigenvalues
by_magnitude first_value second_value =
    if lt (abs first_value) (abs second_value) then nonzero_pair second_value first_value
    else nonzero_pair first_value second_value

unfoldable pub eigenvalue_pair : Matrix3 → Float → Traced Eigenvalues
eigenvalue_pair m off_diagonal_squared = do
  -- let trace_coefficient = -matrix.trace();
  trace_coefficient ← ⊝ trace m
  pair_term ← pair_coefficient m off_diagonal_squared
  roots ← quadratic_real_monic trace_coefficient pair_term
  with_pair roots (pure NoPair)
      (λ first_value second_value. pure (by_magnitude first_value second_value))
