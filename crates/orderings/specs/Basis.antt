-- Where the inverse basis of an ordering comes from: it is made of two edges of the world's
-- triangle, as `solve_ordered` (lambdatwist.rs) makes it, or a plate has it.
use Rattle.ieee754.specs.Traced.{Traced, pure}
use Rattle.p3p_common.specs.WorldBasisInverse.{world_basis_inverse}
use Rattle.orderings.specs.Types.{Matrix3, Option, Some, None, Source, Made, Stored, Lacking}

unfoldable pub basis_of : Source → Traced (Option Matrix3)
-- world_basis_inverse(d01, d02)
basis_of (Made d01 d02) = world_basis_inverse d01 d02
basis_of (Stored inverse) = pure (Some inverse)
basis_of Lacking = pure None
