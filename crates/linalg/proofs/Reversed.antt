-- The squared length of a difference is that of the reversed one. Assumes nothing.
use mathlib.Core.Path.{◌≡◌}
use lib.Ieee.{binary64}
use Rattle.ieee754_laws.proofs.SquareLaws.{square-difference}
use Rattle.linalg.specs.Vectors.{vec_sub, dot, norm_squared}
use Rattle.linalg.specs.Types.{Vector3}

pub reversed : (a b : Vector3)
    → (norm_squared (vec_sub a b).value).value ≡ (norm_squared (vec_sub b a).value).value
unfolding vec_sub dot norm_squared
reversed a b =
    rw (
      square-difference binary64 a.x b.x,
      square-difference binary64 a.y b.y,
      square-difference binary64 a.z b.z,
    )
