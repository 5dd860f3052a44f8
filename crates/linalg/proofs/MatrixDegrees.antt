-- The operations on matrices scale. In a product the degrees of a column of the left and of the
-- entry, or row, of the right that it meets add up to one degree, the same for all three. Assumes
-- nothing.
use mathlib.Core.Path.{◌≡◌}
use mathlib.Core.Bool.{◌&&◌}
use lib.IntN.{ℤ, pos, ◌+ℤ◌}
use Rattle.ieee754.specs.Scaling.{Both, Scales}
use Rattle.ieee754_laws.proofs.Degrees.{same, at_zero, null, !◌, ◌⊗◌, ◌⊕◌, degree, pure, ◌>>=◌}
use Rattle.linalg.specs.Types.{Vector3, Matrix3}
use Rattle.linalg.specs.Matrices.{from_columns, from_rows, column0, column1, column2}
use Rattle.linalg.specs.Matrices.{mat_vec, mat_mul, mat_norm_squared, trace, mat_finite}
use Rattle.linalg.specs.VectorScaling.{AtEntries, AtVector, AtRows, AtColumns, AtMatrix}
use Rattle.linalg.proofs.VectorDegrees.{entries-scale, norm_squared-scales, all_finite-same}

module _ {k : ℤ} where
  -- what is equal in the two runs has degree 0, and what has degree 0 is equal
  pub same-matrix : (m : Matrix3) → AtMatrix k (pos 0) m m
  same-matrix m = record {
    m00 = same m.m00;
    m01 = same m.m01;
    m02 = same m.m02;
    m10 = same m.m10;
    m11 = same m.m11;
    m12 = same m.m12;
    m20 = same m.m20;
    m21 = same m.m21;
    m22 = same m.m22;
  }

  pub matrix-at-zero : {m m' : Matrix3} → AtMatrix k (pos 0) m m' → m ≡ m'
  matrix-at-zero h = λ i. record {
    m00 = at_zero h.m00 i;
    m01 = at_zero h.m01 i;
    m02 = at_zero h.m02 i;
    m10 = at_zero h.m10 i;
    m11 = at_zero h.m11 i;
    m12 = at_zero h.m12 i;
    m20 = at_zero h.m20 i;
    m21 = at_zero h.m21 i;
    m22 = at_zero h.m22 i;
  }

  -- ---- columns and rows
  module _ {p q r : ℤ} {m m' : Matrix3} (m-at : AtRows k p q r m m') where
    pub column0-at : AtEntries k p q r (column0 m) (column0 m')
    column0-at = record { x = m-at.m00; y = m-at.m10; z = m-at.m20 }

    pub column1-at : AtEntries k p q r (column1 m) (column1 m')
    column1-at = record { x = m-at.m01; y = m-at.m11; z = m-at.m21 }

    pub column2-at : AtEntries k p q r (column2 m) (column2 m')
    column2-at = record { x = m-at.m02; y = m-at.m12; z = m-at.m22 }

  pub columns-at : {n : ℤ} {m m' : Matrix3} → AtMatrix k n m m' → AtColumns k n n n m m'
  columns-at m = record { c0 = column0-at m; c1 = column1-at m; c2 = column2-at m }

  pub matrix-at : {n : ℤ} {m m' : Matrix3} → AtColumns k n n n m m' → AtMatrix k n m m'
  matrix-at h = record {
    m00 = h.c0.x;
    m01 = h.c1.x;
    m02 = h.c2.x;
    m10 = h.c0.y;
    m11 = h.c1.y;
    m12 = h.c2.y;
    m20 = h.c0.z;
    m21 = h.c1.z;
    m22 = h.c2.z;
  }

  module _ {p q r : ℤ} {a a' b b' c c' : Vector3}
      (a_at : AtVector k p a a')
      (b_at : AtVector k q b b')
      (c-at : AtVector k r c c') where
    pub from_columns-at : AtColumns k p q r (from_columns a b c) (from_columns a' b' c')
    unfolding from_columns
    from_columns-at = record {
      c0 = record { x = a_at.x; y = a_at.y; z = a_at.z };
      c1 = record { x = b_at.x; y = b_at.y; z = b_at.z };
      c2 = record { x = c-at.x; y = c-at.y; z = c-at.z };
    }

    pub from_rows-at : AtRows k p q r (from_rows a b c) (from_rows a' b' c')
    unfolding from_rows
    from_rows-at = record {
      m00 = a_at.x;
      m01 = a_at.y;
      m02 = a_at.z;
      m10 = b_at.x;
      m11 = b_at.y;
      m12 = b_at.z;
      m20 = c-at.x;
      m21 = c-at.y;
      m22 = c-at.z;
    }

  -- ---- products
  module _ {p q r p' q' r' s : ℤ} (e : p +ℤ p' ≡ s) (f : q +ℤ q' ≡ s) (g : r +ℤ r' ≡ s) where
    pub mat_vec-scales : {m m' : Matrix3} {v v' : Vector3}
        → AtColumns k p q r m m'
        → AtEntries k p' q' r' v v'
        → Both (AtVector k s) (mat_vec m v) (mat_vec m' v')
    unfolding mat_vec
    mat_vec-scales m v =
        entries-scale
        (degree e (! m.c0.x ⊗ ! v.x)
        ⊕ degree f (! m.c1.x ⊗ ! v.y)
        ⊕ degree g (! m.c2.x ⊗ ! v.z))
        (degree e (! m.c0.y ⊗ ! v.x)
        ⊕ degree f (! m.c1.y ⊗ ! v.y)
        ⊕ degree g (! m.c2.y ⊗ ! v.z))
        (degree e (! m.c0.z ⊗ ! v.x)
        ⊕ degree f (! m.c1.z ⊗ ! v.y)
        ⊕ degree g (! m.c2.z ⊗ ! v.z))

    pub mat_mul-scales : {a a' b b' : Matrix3}
        → AtColumns k p q r a a'
        → AtRows k p' q' r' b b'
        → Both (AtMatrix k s) (mat_mul a b) (mat_mul a' b')
    unfolding mat_mul
    mat_mul-scales a b =
        mat_vec-scales a (column0-at b) >>= λ _ _ c0.
        mat_vec-scales a (column1-at b) >>= λ _ _ c1.
        mat_vec-scales a (column2-at b) >>= λ _ _ c2.
        pure (matrix-at (from_columns-at c0 c1 c2))

  -- ---- sums, and the test for finite entries
  pub mat_norm_squared-scales : {n : ℤ} {m m' : Matrix3}
      → AtMatrix k n m m'
      → Scales k (n +ℤ n) (mat_norm_squared m) (mat_norm_squared m')
  unfolding mat_norm_squared
  mat_norm_squared-scales m =
      norm_squared-scales (column0-at m)
      ⊕ norm_squared-scales (column1-at m)
      ⊕ norm_squared-scales (column2-at m)

  pub trace-scales : {n : ℤ} {m m' : Matrix3} → AtMatrix k n m m' → Scales k n (trace m) (trace m')
  unfolding trace
  trace-scales m = ! null ⊕ ! m.m00 ⊕ ! m.m11 ⊕ ! m.m22

  pub mat_finite-same : {p q r : ℤ} {m m' : Matrix3}
      → AtRows k p q r m m'
      → mat_finite m ≡ mat_finite m'
  unfolding mat_finite
  mat_finite-same m = λ i.
      all_finite-same (column0-at m) i
      && all_finite-same (column1-at m) i
      && all_finite-same (column2-at m) i
