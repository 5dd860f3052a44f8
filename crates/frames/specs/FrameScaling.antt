-- What the scaling rule says of two runs' points, squared edges and poses: world points and
-- translations at degree 1, squared edges at 2, rotations equal.
use Rattle.std.specs.Prelude.{◌≡◌, ℤ, pos}
use Rattle.ieee754.specs.Scaling.{At}
use Rattle.linalg.specs.VectorScaling.{AtVector}
use Rattle.frames.specs.Types.{World, SquaredEdges, Pose}

pub record AtWorld (k : ℤ) (w w' : World) : Type 0 where
  pub p0 : AtVector k (pos 1) w.p0 w'.p0
  pub p1 : AtVector k (pos 1) w.p1 w'.p1
  pub p2 : AtVector k (pos 1) w.p2 w'.p2

pub record AtSquaredEdges (k : ℤ) (e e' : SquaredEdges) : Type 0 where
  pub a01 : At k (pos 2) e.a01 e'.a01
  pub a02 : At k (pos 2) e.a02 e'.a02
  pub a12 : At k (pos 2) e.a12 e'.a12

pub record AtPose (k : ℤ) (p p' : Pose) : Type 0 where
  pub rotation : p.rotation ≡ p'.rotation
  pub translation : AtVector k (pos 1) p.translation p'.translation
