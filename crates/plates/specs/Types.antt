-- The structs and enums that definitions and laws of this crate name: those of its src/, of std,
-- and of the crates below.
pub use Rattle.std.specs.Prelude.{Option, Some, None}
pub use Rattle.linalg.specs.declared.matrix3.Matrix3.{Matrix3}
pub use Rattle.linalg.specs.declared.vector3.Vector3.{Vector3}
pub use Rattle.frames.specs.declared.bearings.Bearings.{Bearings}
pub use Rattle.frames.specs.declared.squared_edges.SquaredEdges.{SquaredEdges}
pub use Rattle.frames.specs.declared.world.World.{World}
pub use Rattle.p3p_common.specs.declared.input.P3pInput.{P3pInput}
pub use Rattle.orderings.specs.declared.basis.Source.{Source}
pub use Rattle.orderings.specs.declared.basis.Source.TheVariants.{Made, Stored, Lacking}
pub use Rattle.orderings.specs.declared.measured.Measured.{Measured}
pub use Rattle.orderings.specs.declared.permutation.Conditioned.{Conditioned}
pub use Rattle.lambdatwist.specs.declared.solve.Answer.{Answer}
pub use Rattle.plates.specs.declared.plate.Plate.{Plate}
pub use Rattle.plates.specs.declared.outcome.Outcome.{Outcome}
pub use Rattle.plates.specs.declared.ordering.Ordering.{Ordering}
pub use Rattle.plates.specs.declared.ordering.Permutation.{Permutation}
pub use Rattle.plates.specs.declared.targets.Target.{Target}
pub use Rattle.plates.specs.declared.targets.Target.TheVariants.{First, Second, Third}
pub use Rattle.plates.specs.declared.targets.NoSuchTarget.{NoSuchTarget}
