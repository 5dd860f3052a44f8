-- nalgebra's operations on Matrix3<f64>, in document 01's reading ("Rounding and sums"): a squared
-- length is taken column by column, matrix times vector adds columns left to right, matrix times
-- matrix does so for each column, and `trace` starts from plus zero.
use Rattle.std.specs.Prelude.{Bool, ◌&&◌, Float}
use Rattle.ieee754.specs.Literal.{plus_zero}
use Rattle.ieee754.specs.Traced.{Traced, pure, ◌>>=◌, ◌⊗◌, ◌⊕◌, !◌}
use Rattle.linalg.specs.Types.{Vector3, Matrix3}
use Rattle.linalg.specs.Vectors.{vector, norm_squared, all_finite}

-- Matrix3::from_columns, Matrix3::from_rows
unfoldable pub from_columns : Vector3 → Vector3 → Vector3 → Matrix3
from_columns a b c = record {
  m00 = a.x;
  m01 = b.x;
  m02 = c.x;
  m10 = a.y;
  m11 = b.y;
  m12 = c.y;
  m20 = a.z;
  m21 = b.z;
  m22 = c.z;
}

unfoldable pub from_rows : Vector3 → Vector3 → Vector3 → Matrix3
from_rows a b c = record {
  m00 = a.x;
  m01 = a.y;
  m02 = a.z;
  m10 = b.x;
  m11 = b.y;
  m12 = b.z;
  m20 = c.x;
  m21 = c.y;
  m22 = c.z;
}

-- m.column(0), m.column(1), m.column(2)
abbrev pub column0 : Matrix3 → Vector3
column0 m = vector m.m00 m.m10 m.m20

abbrev pub column1 : Matrix3 → Vector3
column1 m = vector m.m01 m.m11 m.m21

abbrev pub column2 : Matrix3 → Vector3
column2 m = vector m.m02 m.m12 m.m22

-- m * v
unfoldable pub mat_vec : Matrix3 → Vector3 → Traced Vector3
mat_vec m v = do
  x ← ! m.m00 ⊗ ! v.x ⊕ ! m.m01 ⊗ ! v.y ⊕ ! m.m02 ⊗ ! v.z
  y ← ! m.m10 ⊗ ! v.x ⊕ ! m.m11 ⊗ ! v.y ⊕ ! m.m12 ⊗ ! v.z
  z ← ! m.m20 ⊗ ! v.x ⊕ ! m.m21 ⊗ ! v.y ⊕ ! m.m22 ⊗ ! v.z
  pure (vector x y z)

-- a * b
unfoldable pub mat_mul : Matrix3 → Matrix3 → Traced Matrix3
mat_mul a b = do
  c0 ← mat_vec a (column0 b)
  c1 ← mat_vec a (column1 b)
  c2 ← mat_vec a (column2 b)
  pure (from_columns c0 c1 c2)

-- m.norm_squared()
unfoldable pub mat_norm_squared : Matrix3 → Traced Float
mat_norm_squared m = norm_squared (column0 m) ⊕ norm_squared (column1 m) ⊕ norm_squared (column2 m)

-- m.trace()
unfoldable pub trace : Matrix3 → Traced Float
trace m = ! plus_zero ⊕ ! m.m00 ⊕ ! m.m11 ⊕ ! m.m22

-- m.iter().all(|value| value.is_finite())
unfoldable pub mat_finite : Matrix3 → Bool
mat_finite m = all_finite (column0 m) && all_finite (column1 m) && all_finite (column2 m)
