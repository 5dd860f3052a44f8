-- The structs and enums that definitions and laws of this crate name: those of its src/, of std,
-- and of the crates below.
pub use Rattle.std.specs.Prelude.{Option, Some, None}
pub use Rattle.linalg.specs.declared.matrix3.Matrix3.{Matrix3}
pub use Rattle.linalg.specs.declared.vector3.Vector3.{Vector3}
pub use Rattle.frames.specs.declared.bearings.Bearings.{Bearings}
pub use Rattle.frames.specs.declared.cosines.Cosines.{Cosines}
pub use Rattle.frames.specs.declared.squared_edges.SquaredEdges.{SquaredEdges}
pub use Rattle.frames.specs.declared.world.World.{World}
pub use Rattle.p3p_common.specs.declared.input.P3pInput.{P3pInput}
pub use Rattle.orderings.specs.declared.angles.SquaredSines.{SquaredSines}
pub use Rattle.orderings.specs.declared.angles.Factors.{Factors}
pub use Rattle.orderings.specs.declared.basis.Source.{Source}
pub use Rattle.orderings.specs.declared.basis.Source.TheVariants.{Made, Stored, Lacking}
pub use Rattle.orderings.specs.declared.cubic.Coefficients.{Coefficients}
pub use Rattle.orderings.specs.declared.edges.EdgeVectors.{EdgeVectors}
pub use Rattle.orderings.specs.declared.measured.Measured.{Measured}
pub use Rattle.orderings.specs.declared.permutation.Conditioned.{Conditioned}
