-- The structs and enums that definitions and laws of this crate name: that of its src/, those of
-- std, and those of the crates below.
pub use Rattle.std.specs.Prelude.{Option, Some, None}
pub use Rattle.linalg.specs.declared.matrix3.Matrix3.{Matrix3}
pub use Rattle.linalg.specs.declared.vector3.Vector3.{Vector3}
pub use Rattle.frames.specs.declared.bearings.Bearings.{Bearings}
pub use Rattle.frames.specs.declared.squared_edges.SquaredEdges.{SquaredEdges}
pub use Rattle.frames.specs.declared.world.World.{World}
pub use Rattle.lambdatwist.specs.declared.solve.Answer.{Answer}
pub use Rattle.plates.specs.declared.plate.Plate.{Plate}
pub use Rattle.plates.specs.declared.outcome.Outcome.{Outcome}
pub use Rattle.preview.specs.declared.preview.Shown.{Shown}
