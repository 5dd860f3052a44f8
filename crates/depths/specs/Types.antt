-- The structs and enums that definitions and laws of this crate name: those of its src/, of std,
-- and of the crates below.
pub use Rattle.std.specs.Prelude.{Option, Some, None}
pub use Rattle.linalg.specs.declared.matrix3.Matrix3.{Matrix3}
pub use Rattle.linalg.specs.declared.vector3.Vector3.{Vector3}
pub use Rattle.frames.specs.declared.squared_edges.SquaredEdges.{SquaredEdges}
pub use Rattle.polynomial.specs.declared.Roots.{Roots}
pub use Rattle.polynomial.specs.declared.pair.RootPair.{RootPair}
pub use Rattle.orderings.specs.declared.angles.Factors.{Factors}
pub use Rattle.depths.specs.declared.candidates.Candidate.{Candidate}
pub use Rattle.depths.specs.declared.candidates.Candidates.{Candidates}
pub use Rattle.depths.specs.declared.charts.ChartDepths.{ChartDepths}
