-- Vectors and matrices of two runs, entry by entry, at a degree of the scaling rule, demand 3 of
-- the mission.
use Rattle.std.specs.Prelude.{ℤ}
use Rattle.ieee754.specs.Scaling.{At}
use Rattle.linalg.specs.Types.{Vector3, Matrix3}
use Rattle.linalg.specs.Matrices.{column0, column1, column2}

-- each entry at a degree of its own: p, q and r
pub record AtEntries (k p q r : ℤ) (v v' : Vector3) : Type 0 where
  pub x : At k p v.x v'.x
  pub y : At k q v.y v'.y
  pub z : At k r v.z v'.z

abbrev pub AtVector : ℤ → ℤ → Vector3 → Vector3 → Type 0
AtVector k n v v' = AtEntries k n n n v v'

-- each row at a degree of its own: i, j and l
pub record AtRows (k i j l : ℤ) (m m' : Matrix3) : Type 0 where
  pub m00 : At k i m.m00 m'.m00
  pub m01 : At k i m.m01 m'.m01
  pub m02 : At k i m.m02 m'.m02
  pub m10 : At k j m.m10 m'.m10
  pub m11 : At k j m.m11 m'.m11
  pub m12 : At k j m.m12 m'.m12
  pub m20 : At k l m.m20 m'.m20
  pub m21 : At k l m.m21 m'.m21
  pub m22 : At k l m.m22 m'.m22

abbrev pub AtMatrix : ℤ → ℤ → Matrix3 → Matrix3 → Type 0
AtMatrix k n m m' = AtRows k n n n m m'

-- each column at a degree of its own: p, q and r
pub record AtColumns (k p q r : ℤ) (m m' : Matrix3) : Type 0 where
  pub c0 : AtVector k p (column0 m) (column0 m')
  pub c1 : AtVector k q (column1 m) (column1 m')
  pub c2 : AtVector k r (column2 m) (column2 m')
