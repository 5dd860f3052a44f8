-- The structs and enums that definitions and laws of this crate name: those of its src/, and those
-- of the crates below.
pub use Rattle.std.specs.Prelude.{Option, Some, None}
pub use Rattle.frames.specs.declared.pose.Pose.{Pose}
pub use Rattle.eigen.specs.declared.eigenpairs.Eigenpairs.{Eigenpairs}
pub use Rattle.eigen.specs.declared.known_zero.Eigensystem.{Eigensystem}
pub use Rattle.lambdatwist.specs.declared.solve.Answer.{Answer}
pub use Rattle.replay_stages.specs.declared.stages.Stage.{Stage}
pub use Rattle.replay_stages.specs.declared.stages.Stage.TheVariants.{
  Frame,
  Eig,
  RowCrosses,
  Condition,
}
