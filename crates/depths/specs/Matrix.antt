-- The matrix that is singular at the cubic's root g: `let matrix = Matrix3::new(..)` of
-- `solve_ordered` (lambdatwist.rs).
use Rattle.std.specs.Prelude.{Float}
use Rattle.ieee754.specs.Literal.{half, one}
use Rattle.ieee754.specs.Traced.{Traced, pure, ◌>>=◌, ◌⊗◌, ◌⊕◌, ◌⊖◌, !◌, ⊝◌}
use Rattle.depths.specs.Types.{Matrix3, SquaredEdges, Factors}

-- Matrix3::new(
--     a12 * (1.0 - g), 0.5 * a12 * b01, -0.5 * a12 * b02 * g,
--     0.5 * a12 * b01, a12 - a01 + a02 * g, 0.5 * b12 * (a02 * g - a01),
--     -0.5 * a12 * b02 * g, 0.5 * b12 * (a02 * g - a01), g * (a02 - a12) - a01)
unfoldable pub singular_matrix : SquaredEdges → Factors → Float → Traced Matrix3
singular_matrix squares factors g =
    let record { a01 = a01; a02 = a02; a12 = a12 } = squares in
    let record { b01 = b01; b02 = b02; b12 = b12 } = factors in
    do
      m00 ← ! a12 ⊗ (! one ⊖ ! g)
      m01 ← ! half ⊗ ! a12 ⊗ ! b01
      m02 ← ⊝ ! half ⊗ ! a12 ⊗ ! b02 ⊗ ! g
      m11 ← ! a12 ⊖ ! a01 ⊕ ! a02 ⊗ ! g
      m12 ← ! half ⊗ ! b12 ⊗ (! a02 ⊗ ! g ⊖ ! a01)
      m22 ← ! g ⊗ (! a02 ⊖ ! a12) ⊖ ! a01
      pure (record {
        m00 = m00;
        m01 = m01;
        m02 = m02;
        m10 = m01;
        m11 = m11;
        m12 = m12;
        m20 = m02;
        m21 = m12;
        m22 = m22;
      })
