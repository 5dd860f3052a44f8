-- Eigenvectors are equal in the two runs: that of the row crosses, at degree 4, is divided by its
-- length, and so is that of the eigenvalue zero; the others are made of ratios. Assumes nothing.
use Rattle.std.proofs.Common.{◌≡◌, not, ◌&&◌, ◌||◌, ℤ, pos, refl, ap, subst, ap₂}
use lib.Ieee.{Float}
use Rattle.ieee754.specs.Literal.{one, sixty_four, epsilon}
use Rattle.ieee754.specs.Scaling.{Both, At, Scales}
use Rattle.ieee754_laws.proofs.Degrees.{same, null, !◌, ⊝◌, √◌, ◌⊗◌, ◌⊘◌, ◌⊕◌, ◌⊖◌, pure, ◌>>=◌}
use Rattle.ieee754_laws.proofs.Degrees.{if◌then◌else◌, choose, abs-at, le_same, finite-same}
use Rattle.ieee754_laws.proofs.Degrees.{total-same}
use Rattle.ieee754_laws.proofs.MinPositive.{floored, epsilon64-small, norm-at}
use Rattle.linalg.specs.Vectors.{norm}
use Rattle.linalg.specs.VectorScaling.{AtVector, AtMatrix}
use Rattle.linalg.proofs.VectorDegrees.{vector-at-zero, vec_div-scales, norm_squared-scales}
use Rattle.linalg.proofs.VectorDegrees.{cross-scales}
use Rattle.linalg.proofs.MatrixDegrees.{mat_norm_squared-scales}
use Rattle.eigen.specs.RowCrosses.{last_greatest, longer, unit_vector}
use Rattle.eigen.specs.RowCrosses.{eigenvector_from_row_crosses}
use Rattle.eigen.specs.ZeroVector.{zero_direction, zero_vector}
use Rattle.eigen.specs.EigenvectorOf.{precompute, eigen_denominator, denominator_scale}
use Rattle.eigen.specs.EigenvectorOf.{if_finite, eigenvector_by_division, eigenvector_of}
use Rattle.eigen.specs.Types.{Ordering, Less, Equal, Greater, Option, Some, None}
use Rattle.eigen.specs.Types.{Vector3, Matrix3, Precomputed}
use Rattle.linalg.proofs.SquaredLength.{squared-normal}

module _ {k : ℤ} where
  -- ---- the longest cross product of two rows
  last_greatest-at : {n : ℤ} {o o' : Ordering} {l l' r r' : Vector3}
      → o ≡ o'
      → AtVector k n l l'
      → AtVector k n r r'
      → AtVector k n (last_greatest o l r) (last_greatest o' l' r')
  unfolding last_greatest
  last_greatest-at {n} {o} {l = l} {l'} {r} {r'} e L R =
      subst (λ (p : Ordering). AtVector k n (last_greatest o l r) (last_greatest p l' r')) e (go o)
    where
      go : (o : Ordering) → AtVector k n (last_greatest o l r) (last_greatest o l' r')
      go Less = R
      go Equal = R
      go Greater = L

  longer-scales : {n : ℤ} {l l' r r' : Vector3}
      → AtVector k n l l'
      → AtVector k n r r'
      → Both (AtVector k n) (longer l r) (longer l' r')
  unfolding longer
  longer-scales left right =
      norm_squared-scales left >>= λ _ _ l.
      norm_squared-scales right >>= λ _ _ r.
      pure (last_greatest-at (total-same l r) left right)

  unit_vector-same : {v v' : Vector3}
      → AtVector k (pos 4) v v'
      → Both {A = Option Vector3} ◌≡◌ (unit_vector v) (unit_vector v')
  unfolding unit_vector norm
  unit_vector-same {v} {v'} h =
      norm-at {n = pos 4} (norm_squared-scales h) (squared-normal v) (squared-normal v') >>=
      λ _ _ vector_norm.
      vec_div-scales h vector_norm.0 >>= λ _ _ unit.
      let valid = ap₂ ◌&&◌ vector_norm.1 (finite-same vector_norm.0) in
      pure (choose ◌≡◌ valid (ap Some (vector-at-zero unit)) (refl {a = None}))

  module _ {m m' : Matrix3} (M : AtMatrix k (pos 2) m m') where
    pub row_crosses-same : {e e' : Float}
        → At k (pos 2) e e'
        → Both {A = Option Vector3} ◌≡◌
        (eigenvector_from_row_crosses m e)
        (eigenvector_from_row_crosses m' e')
    unfolding eigenvector_from_row_crosses
    row_crosses-same e =
        ! M.m00 ⊖ ! e >>= λ _ _ x0.
        ! M.m11 ⊖ ! e >>= λ _ _ y1.
        ! M.m22 ⊖ ! e >>= λ _ _ z2.
        cross-scales (record { x = x0; y = M.m01; z = M.m02 })
        (record { x = M.m10; y = y1; z = M.m12 }) >>= λ _ _ c01.
        cross-scales (record { x = x0; y = M.m01; z = M.m02 })
        (record { x = M.m20; y = M.m21; z = z2 }) >>= λ _ _ c02.
        cross-scales (record { x = M.m10; y = y1; z = M.m12 })
        (record { x = M.m20; y = M.m21; z = z2 }) >>= λ _ _ c12.
        longer-scales c01 c02 >>= λ _ _ best.
        longer-scales best c12 >>= λ _ _ longest.
        unit_vector-same longest

    -- ---- the eigenvector of zero
    zero_direction-scales : Both (AtVector k (pos 4)) (zero_direction m) (zero_direction m')
    unfolding zero_direction
    zero_direction-scales =
        ! M.m01 ⊗ ! M.m12 ⊖ ! M.m02 ⊗ ! M.m11 >>= λ _ _ x.
        ! M.m02 ⊗ ! M.m01 ⊖ ! M.m12 ⊗ ! M.m00 >>= λ _ _ y.
        ! M.m11 ⊗ ! M.m00 ⊖ ! M.m01 ⊗ ! M.m01 >>= λ _ _ z.
        pure (record { x = x; y = y; z = z })

    pub zero_vector-same : Both {A = Option Vector3} ◌≡◌ (zero_vector m) (zero_vector m')
    unfolding zero_vector
    zero_vector-same =
        zero_direction-scales >>= λ _ _ direction.
        norm_squared-scales direction >>= λ _ _ zero_norm_squared.
        mat_norm_squared-scales M >>= λ _ _ matrix_scale.
        ! same sixty_four ⊗ ! same epsilon ⊗ ! matrix_scale ⊗ ! matrix_scale >>= λ _ _ limit.
        if le_same zero_norm_squared limit then row_crosses-same null
        else (
        √◌ {n = pos 4} (! zero_norm_squared) >>= λ _ _ zero_norm.
        vec_div-scales direction zero_norm >>= λ _ _ unit.
        pure (ap Some (vector-at-zero unit)))

    -- ---- the eigenvector of a nonzero eigenvalue
    pub record AtPrecomputed (p p' : Precomputed) : Type 0 where
      pub square : At k (pos 4) p.square p'.square
      pub product : At k (pos 4) p.product p'.product
      pub precomputed0 : At k (pos 4) p.precomputed0 p'.precomputed0
      pub precomputed1 : At k (pos 4) p.precomputed1 p'.precomputed1

    pub precompute-scales : {s s' : Float}
        → At k (pos 4) s s'
        → Both AtPrecomputed (precompute m s) (precompute m' s')
    unfolding precompute
    precompute-scales square =
        ⊝ ! M.m00 ⊗ ! M.m11 >>= λ _ _ product.
        ! M.m01 ⊗ ! M.m12 ⊖ ! M.m02 ⊗ ! M.m11 >>= λ _ _ precomputed0.
        ! M.m01 ⊗ ! M.m02 ⊖ ! M.m00 ⊗ ! M.m12 >>= λ _ _ precomputed1.
        pure (record {
          square = square;
          product = product;
          precomputed0 = precomputed0;
          precomputed1 = precomputed1;
        })

    module _ {p p' : Precomputed} {e e' : Float} (P : AtPrecomputed p p')
        (E : At k (pos 2) e e') where
      eigen_denominator-scales :
          Scales k (pos 4) (eigen_denominator m p e) (eigen_denominator m' p' e')
      unfolding eigen_denominator
      eigen_denominator-scales =
          ! E ⊗ (! M.m00 ⊕ ! M.m11) ⊕ ! P.product ⊖ ! E ⊗ ! E ⊕ ! P.square

      denominator_scale-scales :
          Scales k (pos 4) (denominator_scale m p e) (denominator_scale m' p' e')
      unfolding denominator_scale
      denominator_scale-scales =
          ! E ⊗ (! M.m00 ⊕ ! M.m11) >>= λ _ _ linear.
          ! abs-at linear ⊕ ! abs-at P.product ⊕ ! E ⊗ ! E ⊕ ! P.square

      by_division-same : {d d' : Float}
          → At k (pos 4) d d'
          → Both {A = Option Vector3} ◌≡◌
          (eigenvector_by_division m p e d)
          (eigenvector_by_division m' p' e' d')
      unfolding eigenvector_by_division if_finite
      by_division-same denominator =
          ⊝ (! E ⊗ ! M.m02 ⊕ ! P.precomputed0) ⊘ ! denominator >>= λ _ _ first.
          ⊝ (! E ⊗ ! M.m12 ⊕ ! P.precomputed1) ⊘ ! denominator >>= λ _ _ second.
          ! same one ⊘ √◌ {n = pos 0} (! first ⊗ ! first ⊕ ! second ⊗ ! second ⊕ ! same one) >>=
          λ _ _ inverse_norm.
          ! first ⊗ ! inverse_norm >>= λ _ _ x.
          ! second ⊗ ! inverse_norm >>= λ _ _ y.
          pure (ap if_finite (vector-at-zero (record { x = x; y = y; z = inverse_norm })))

      pub eigenvector_of-same :
          Both {A = Option Vector3} ◌≡◌ (eigenvector_of m p e) (eigenvector_of m' p' e')
      unfolding eigenvector_of
      eigenvector_of-same =
          eigen_denominator-scales >>= λ _ _ denominator.
          denominator_scale-scales >>= λ _ _ scale.
          floored (! same sixty_four ⊗ ! same epsilon) epsilon64-small scale >>= λ _ _ limit.
          if ap₂ ◌||◌ (le_same (abs-at denominator) limit) (ap not (finite-same denominator)) then
          row_crosses-same E
          else by_division-same denominator
