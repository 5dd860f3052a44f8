-- The entries of a vector are doubles: what a Vector3<f64> of the Rust is, where a definition
-- ranges over every float.
use Rattle.std.specs.Prelude.{T}
use Rattle.std.specs.Float.{binary64}
use Rattle.std.specs.Float.Ieee.{fits}
use Rattle.linalg.specs.Types.{Vector3}

pub record Doubles (v : Vector3) : Type 0 where
  pub x : T (fits binary64 v.x)
  pub y : T (fits binary64 v.y)
  pub z : T (fits binary64 v.z)
