-- The edges of the world's triangle and their squared lengths: the first lines of `solve_ordered`
-- and of `leading_cubic_condition` (lambdatwist.rs).
use Rattle.ieee754.specs.Traced.{Traced, pure, ◌>>=◌}
use Rattle.linalg.specs.Vectors.{vec_sub, norm_squared}
use Rattle.orderings.specs.Types.{World, SquaredEdges, EdgeVectors}

-- let d01 = p0 - p1;
-- let d02 = p0 - p2;
-- let d12 = p1 - p2;
unfoldable pub edge_vectors : World → Traced EdgeVectors
edge_vectors world =
    let record { p0 = p0; p1 = p1; p2 = p2 } = world in
    do
      d01 ← vec_sub p0 p1
      d02 ← vec_sub p0 p2
      d12 ← vec_sub p1 p2
      pure (record { d01 = d01; d02 = d02; d12 = d12 })

-- let a01 = d01.norm_squared();
-- let a02 = d02.norm_squared();
-- let a12 = d12.norm_squared();
unfoldable pub squared_edges : EdgeVectors → Traced SquaredEdges
squared_edges edges = do
  a01 ← norm_squared edges.d01
  a02 ← norm_squared edges.d02
  a12 ← norm_squared edges.d12
  pure (record { a01 = a01; a02 = a02; a12 = a12 })
