-- The structs that definitions and laws of this crate name: those of the crates below.
pub use Rattle.linalg.specs.declared.matrix3.Matrix3.{Matrix3}
pub use Rattle.linalg.specs.declared.vector3.Vector3.{Vector3}
pub use Rattle.frames.specs.declared.bearings.Bearings.{Bearings}
pub use Rattle.frames.specs.declared.cosines.Cosines.{Cosines}
pub use Rattle.frames.specs.declared.pose.Pose.{Pose}
pub use Rattle.frames.specs.declared.squared_edges.SquaredEdges.{SquaredEdges}
pub use Rattle.frames.specs.declared.world.World.{World}
