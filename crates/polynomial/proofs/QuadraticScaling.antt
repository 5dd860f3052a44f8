-- The quadratic's part in the scaling rule: with b at a degree n and c at 2 * n the roots are at n,
-- and the refusals are the same (`quadratic-scales`). Each proof is its definition, with the
-- hypotheses on the inputs in their places. Assumes nothing.
use mathlib.Core.Path.{ap, ap₂}
use mathlib.Core.Bool.{not, ◌||◌}
use lib.IntN.{ℤ, ◌+ℤ◌, +ℤ_idl, +ℤ-neg_ℤ_cancel}
use lib.Ieee.{Float}
use Rattle.ieee754.specs.Literal.{half, epsilon}
use Rattle.ieee754.specs.Scaling.{Both, At}
use Rattle.ieee754_laws.proofs.Degrees.{same, null, !◌, ⊝◌, √◌, ◌⊗◌, ◌⊘◌, ◌⊕◌, mul_add, degree}
use Rattle.ieee754_laws.proofs.Degrees.{neg-at}
use Rattle.ieee754_laws.proofs.Degrees.{abs-at, copysign-at, max-at, lt_same, eq-same, finite-same}
use Rattle.ieee754_laws.proofs.Degrees.{pure}
use Rattle.ieee754_laws.proofs.Degrees.{◌>>=◌, if◌then◌else◌, choose}
use Rattle.ieee754_laws.proofs.MinPositive.{floored, epsilon32-small}
use Rattle.polynomial.specs.Literal.{four, thirty_two}
use Rattle.polynomial.specs.Quadratic.{discriminant_of, band_of, double_root, quadratic_pair}
use Rattle.polynomial.specs.Quadratic.{quadratic_real_monic_computed, quadratic_real_monic}
use Rattle.polynomial.specs.RootScaling.{AtRoots, two_at, double-at, lifted-at, refused-at}

double_root-at : {k n m : ℤ} {r r' d d' : Float}
    → At k n r r'
    → At k m d d'
    → AtRoots k n (double_root r d) (double_root r' d')
unfolding double_root
double_root-at {k} {n} root computed =
    choose (AtRoots k n) (lt_same computed null) (lifted-at root) (double-at root)

module _ {k n : ℤ} {b b' c c' : Float} (B : At k n b b') (C : At k (n +ℤ n) c c') where
  pair-scales : {d d' : Float}
      → At k (n +ℤ n) d d'
      → Both (AtRoots k n) (quadratic_pair b c d) (quadratic_pair b' c' d')
  unfolding quadratic_pair
  pair-scales D =
      let discriminant = max-at D null in
      if eq-same discriminant null then (
      degree (+ℤ_idl n) (⊝ ! same half ⊗ ! B) >>= λ _ _ root.
      pure (double_root-at root D))
      else (
      √ ! discriminant >>= λ _ _ root.
      degree (+ℤ_idl n) (⊝ ! same half ⊗ (! B ⊕ ! copysign-at root B)) >>= λ _ _ q.
      if eq-same q null then pure (two_at null null)
      else (
      degree (+ℤ-neg_ℤ_cancel n n) (! C ⊘ ! q) >>= λ _ _ other.
      pure (two_at q other)))

  discriminant-scales : Both (At k (n +ℤ n)) (discriminant_of b c) (discriminant_of b' c')
  discriminant-scales = mul_add (! B) (! B) (degree (+ℤ_idl (n +ℤ n)) (⊝ ! same four ⊗ ! C))

  band-scales : {s s' : Float}
      → At k (n +ℤ n) s s'
      → Both (At k (n +ℤ n)) (band_of b s) (band_of b' s')
  band-scales S =
      ! B ⊗ ! B ⊕ degree (+ℤ_idl (n +ℤ n)) (! same four ⊗ ! S) >>= λ _ _ scale.
      degree (+ℤ_idl (n +ℤ n))
      (floored (! same thirty_two ⊗ ! same epsilon) epsilon32-small scale)

  computed-scales : {s s' : Float}
      → At k (n +ℤ n) s s'
      → Both (AtRoots k n) (quadratic_real_monic_computed b c s) (quadratic_real_monic_computed b' c' s')
  unfolding quadratic_real_monic_computed
  computed-scales S =
      if ap₂ ◌||◌ (ap not (finite-same B)) (ap not (finite-same C)) then pure (refused-at 4)
      else (
      discriminant-scales >>= λ _ _ discriminant.
      band-scales S >>= λ _ _ tolerance.
      if ap₂ ◌||◌ (lt_same discriminant (neg-at tolerance)) (ap not (finite-same discriminant)) then
      pure (refused-at 5)
      else pair-scales discriminant)

  pub quadratic-scales : Both (AtRoots k n) (quadratic_real_monic b c) (quadratic_real_monic b' c')
  unfolding quadratic_real_monic
  quadratic-scales = computed-scales (abs-at C)
