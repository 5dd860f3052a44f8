-- A regular squared length is zero or normal, since its last operation is a regular sum. Assumes
-- nothing.
use lib.Dec.{T}
use Rattle.ieee754.specs.Traced.{◌⊗◌, ◌⊕◌, !◌}
use Rattle.ieee754_laws.proofs.RegularNormal.{zero_or_normal, ⊕-normal}
use Rattle.linalg.specs.Types.{Vector3}
use Rattle.linalg.specs.Vectors.{dot, norm_squared}

pub squared-normal : (v : Vector3)
    → T (norm_squared v).regular
    → T (zero_or_normal (norm_squared v).value)
unfolding norm_squared dot
squared-normal v = ⊕-normal (! v.x ⊗ ! v.x ⊕ ! v.y ⊗ ! v.y) (! v.z ⊗ ! v.z)
