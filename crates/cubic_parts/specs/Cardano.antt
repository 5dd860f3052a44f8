-- `cardano_single_real` of polynomial.rs: the root of x^3 + p*x + 2*half_q by Cardano's formula,
-- where it is the only real one.
use Rattle.std.specs.Prelude.{Float}
use Rattle.ieee754.specs.CopySign.{copysign}
use Rattle.ieee754.specs.Traced.{Traced, ◌>>=◌, !◌, ⊝◌, √◌, ◌⊗◌, ◌⊘◌, ◌⊖◌}
use Rattle.cubic_parts.specs.Literal.{three}
use Rattle.cubic_parts.specs.FastCbrt.{fast_cbrt}

unfoldable pub cardano_single_real : Float → Float → Float → Traced Float
cardano_single_real p half_q discriminant = do
  -- let u = fast_cbrt(-half_q - discriminant.sqrt().copysign(half_q));
  root ← √ ! discriminant
  cube ← ⊝ ! half_q ⊖ ! (copysign root half_q)
  u ← fast_cbrt cube
  -- u - p / (3.0 * u)
  ! u ⊖ ! p ⊘ (! three ⊗ ! u)
