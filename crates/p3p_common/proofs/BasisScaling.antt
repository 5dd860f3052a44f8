-- The inverse basis scales, with its rows at degrees -1, -1 and -2, and so the rotation that edges
-- at degree 1 give with it is equal in the two runs. Assumes nothing.
use mathlib.Core.Path.{◌≡◌, refl, ap}
use mathlib.Core.Bool.{Bool, not}
use lib.IntN.{ℤ, pos, negsuc}
use lib.Ieee.{Float}
use Rattle.ieee754.specs.Literal.{one, sixty_four, epsilon}
use Rattle.ieee754.specs.Scaling.{Both, At, AtOption, some-at, none-at}
use Rattle.ieee754_laws.proofs.Degrees.{same, !◌, ◌⊗◌, ◌⊘◌, pure, if◌then◌else◌, ◌>>=◌, both-map}
use Rattle.ieee754_laws.proofs.Degrees.{max-at}
use Rattle.ieee754_laws.proofs.Degrees.{le_same, finite-same}
use Rattle.p3p_common.specs.Types.{Vector3, Matrix3}
use Rattle.linalg.specs.VectorScaling.{AtVector, AtRows}
use Rattle.linalg.proofs.VectorDegrees.{vec_mul-scales, norm_squared-scales, cross-scales}
use Rattle.linalg.proofs.MatrixDegrees.{matrix-at-zero, from_columns-at, from_rows-at, mat_mul-scales}
use Rattle.p3p_common.specs.WorldBasisInverse.{dual_basis, is_singular, world_basis_inverse}
use Rattle.p3p_common.specs.RotationFromEdges.{rotation_from_edges}

module _ {k : ℤ} where
  is_singular-same : {determinant determinant' scale scale' : Float}
      → At k (pos 4) determinant determinant'
      → At k (pos 2) scale scale'
      → Both {A = Bool} ◌≡◌ (is_singular determinant scale) (is_singular determinant' scale')
  unfolding is_singular
  is_singular-same determinant scale =
      if ap not (finite-same determinant) then pure refl
      else (
      ! same sixty_four ⊗ ! same epsilon ⊗ ! scale ⊗ ! scale >>= λ _ _ limit.
      pure (le_same determinant limit))

  module _ {first first' second second' : Vector3} (first-at : AtVector k (pos 1) first first')
      (second_at : AtVector k (pos 1) second second') where
    dual_basis-scales : {normal normal' : Vector3} {determinant determinant' : Float}
        → AtVector k (pos 2) normal normal'
        → At k (pos 4) determinant determinant'
        → Both (AtRows k (negsuc 0) (negsuc 0) (negsuc 1))
        (dual_basis first second normal determinant) (dual_basis first' second' normal' determinant')
    unfolding dual_basis
    dual_basis-scales normal determinant =
        ! same one ⊘ ! determinant >>= λ _ _ inverse_determinant.
        cross-scales second_at normal >>= λ _ _ to_first.
        vec_mul-scales to_first inverse_determinant >>= λ _ _ dual_first.
        cross-scales normal first-at >>= λ _ _ to_second.
        vec_mul-scales to_second inverse_determinant >>= λ _ _ dual_second.
        vec_mul-scales normal inverse_determinant >>= λ _ _ dual_normal.
        pure (from_rows-at dual_first dual_second dual_normal)

    pub world_basis_inverse-scales :
        Both (AtOption (AtRows k (negsuc 0) (negsuc 0) (negsuc 1)))
        (world_basis_inverse first second)
        (world_basis_inverse first' second')
    unfolding world_basis_inverse
    world_basis_inverse-scales =
        cross-scales first-at second_at >>= λ _ _ normal.
        norm_squared-scales normal >>= λ _ _ determinant.
        norm_squared-scales first-at >>= λ _ _ first_squared.
        norm_squared-scales second_at >>= λ _ _ second_squared.
        is_singular-same determinant (max-at first_squared second_squared) >>= λ _ _ singular.
        if singular then pure none-at
        else (
        dual_basis-scales normal determinant >>= λ _ _ inverse.
        pure (some-at inverse))

    pub rotation_from_edges-same : {m m' : Matrix3}
        → AtRows k (negsuc 0) (negsuc 0) (negsuc 1) m m'
        → Both {A = Matrix3} ◌≡◌
        (rotation_from_edges first second m)
        (rotation_from_edges first' second' m')
    unfolding rotation_from_edges
    rotation_from_edges-same inverse =
        cross-scales first-at second_at >>= λ _ _ normal.
        both-map (λ _ _ rotation. matrix-at-zero rotation)
        (mat_mul-scales refl refl refl (from_columns-at first-at second_at normal) inverse)
