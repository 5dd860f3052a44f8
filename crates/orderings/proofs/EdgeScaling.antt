-- The edges of the world's triangle are at degree 1, and their squared lengths at 2. Assumes
-- nothing.
use lib.IntN.{ℤ, pos}
use Rattle.ieee754.specs.Scaling.{Both}
use Rattle.ieee754_laws.proofs.Degrees.{pure, ◌>>=◌}
use Rattle.linalg.specs.VectorScaling.{AtVector}
use Rattle.linalg.proofs.VectorDegrees.{vec_sub-scales, norm_squared-scales}
use Rattle.frames.specs.FrameScaling.{AtWorld, AtSquaredEdges}
use Rattle.orderings.specs.Edges.{edge_vectors, squared_edges}
use Rattle.orderings.specs.Types.{World, EdgeVectors}

pub record AtEdgeVectors (k : ℤ) (v v' : EdgeVectors) : Type 0 where
  pub d01 : AtVector k (pos 1) v.d01 v'.d01
  pub d02 : AtVector k (pos 1) v.d02 v'.d02
  pub d12 : AtVector k (pos 1) v.d12 v'.d12

module _ {k : ℤ} where
  pub edge_vectors-scales : {w w' : World}
      → AtWorld k w w'
      → Both (AtEdgeVectors k) (edge_vectors w) (edge_vectors w')
  unfolding edge_vectors
  edge_vectors-scales w =
      vec_sub-scales w.p0 w.p1 >>= λ _ _ d01.
      vec_sub-scales w.p0 w.p2 >>= λ _ _ d02.
      vec_sub-scales w.p1 w.p2 >>= λ _ _ d12.
      pure (record { d01 = d01; d02 = d02; d12 = d12 })

  pub squared_edges-scales : {v v' : EdgeVectors}
      → AtEdgeVectors k v v'
      → Both (AtSquaredEdges k) (squared_edges v) (squared_edges v')
  unfolding squared_edges
  squared_edges-scales v =
      norm_squared-scales v.d01 >>= λ _ _ a01.
      norm_squared-scales v.d02 >>= λ _ _ a02.
      norm_squared-scales v.d12 >>= λ _ _ a12.
      pure (record { a01 = a01; a02 = a02; a12 = a12 })
