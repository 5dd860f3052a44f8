-- The singular matrix is at degree 2. Assumes nothing.
use lib.IntN.{ℤ, pos}
use lib.Ieee.{Float}
use Rattle.ieee754.specs.Literal.{half, one}
use Rattle.ieee754.specs.Scaling.{Both}
use Rattle.ieee754_laws.proofs.Degrees.{same, !◌, ⊝◌, ◌⊗◌, ◌⊕◌, ◌⊖◌, pure, ◌>>=◌}
use Rattle.linalg.specs.VectorScaling.{AtMatrix}
use Rattle.frames.specs.FrameScaling.{AtSquaredEdges}
use Rattle.depths.specs.Matrix.{singular_matrix}
use Rattle.depths.specs.Types.{SquaredEdges, Factors}

module _ {k : ℤ} where
  pub singular_matrix-scales : {e e' : SquaredEdges} (factors : Factors) (g : Float)
      → AtSquaredEdges k e e'
      → Both (AtMatrix k (pos 2)) (singular_matrix e factors g) (singular_matrix e' factors g)
  unfolding singular_matrix
  singular_matrix-scales factors g e =
      let a01 = e.a01 in
      let a02 = e.a02 in
      let a12 = e.a12 in
      let b01 = same factors.b01 in
      let b02 = same factors.b02 in
      let b12 = same factors.b12 in
      ! a12 ⊗ (! same one ⊖ ! same g) >>= λ _ _ m00.
      ! same half ⊗ ! a12 ⊗ ! b01 >>= λ _ _ m01.
      ⊝ ! same half ⊗ ! a12 ⊗ ! b02 ⊗ ! same g >>= λ _ _ m02.
      ! a12 ⊖ ! a01 ⊕ ! a02 ⊗ ! same g >>= λ _ _ m11.
      ! same half ⊗ ! b12 ⊗ (! a02 ⊗ ! same g ⊖ ! a01) >>= λ _ _ m12.
      ! same g ⊗ (! a02 ⊖ ! a12) ⊖ ! a01 >>= λ _ _ m22.
      pure (record {
        m00 = m00;
        m01 = m01;
        m02 = m02;
        m10 = m01;
        m11 = m11;
        m12 = m12;
        m20 = m02;
        m21 = m12;
        m22 = m22;
      })
