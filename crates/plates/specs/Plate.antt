-- The plate: three world points, their three squared edges, the inverse basis of the given ordering
-- and whether that inverse exists (plus zeros if not).
use Rattle.std.specs.Prelude.{◌≡◌, true, false}
use Rattle.ieee754.specs.Literal.{plus_zero}
use Rattle.ieee754.specs.Traced.{Traced, pure, ◌>>=◌}
use Rattle.linalg.specs.Vectors.{zeros}
use Rattle.linalg.specs.Matrices.{from_columns}
use Rattle.frames.specs.Points.{points}
use Rattle.p3p_common.specs.WorldBasisInverse.{world_basis_inverse}
use Rattle.orderings.specs.Edges.{edge_vectors, squared_edges}
use Rattle.plates.specs.Types.{Matrix3, World, SquaredEdges, Option, Some, None, Plate}

-- points, their squared edges, and the basis of the given ordering
unfoldable pub with_basis : World → SquaredEdges → Option Matrix3 → Plate
with_basis world edges (Some inverse) = record {
  world = world;
  edges = edges;
  invertible = true;
  inverse = inverse;
}
with_basis world edges None = record {
  world = world;
  edges = edges;
  invertible = false;
  inverse = from_columns zeros zeros zeros;
}

-- the plate worked out from three points: the first lines of `solve_ordered` (lambdatwist.rs), and
-- its world_basis_inverse(d01, d02)
unfoldable pub plate_of : World → Traced Plate
plate_of world = do
  vectors ← edge_vectors world
  edges ← squared_edges vectors
  basis ← world_basis_inverse vectors.d01 vectors.d02
  pure (with_basis world edges basis)

-- the stored numbers are, bit for bit, those worked out from the stored points
abbrev pub Consistent : Plate → Type 0
Consistent plate = plate ≡ (plate_of plate.world).value

unfoldable pub zero_edges : SquaredEdges
zero_edges = record { a01 = plus_zero; a02 = plus_zero; a12 = plus_zero }

-- plus zeros, without inverse
unfoldable pub zero_plate : Plate
zero_plate = with_basis (points zeros zeros zeros) zero_edges None
