-- The structs and enums that definitions and laws of this crate name: those of its src/, and those
-- of the crates below.
pub use Rattle.std.specs.Prelude.{Result, Ok, Err}
pub use Rattle.linalg.specs.declared.vector3.Vector3.{Vector3}
pub use Rattle.frames.specs.declared.pose.Pose.{Pose}
pub use Rattle.refinement.specs.declared.refine_depths.Refined.{Refined}
pub use Rattle.p3p_common.specs.declared.input.P3pInput.{P3pInput}
pub use Rattle.p3p_common.specs.declared.solutions.Solutions.{Solutions}
pub use Rattle.choice.specs.declared.choose.Best.{Best}
pub use Rattle.replay_pieces.specs.declared.pieces.Piece.{Piece}
pub use Rattle.replay_pieces.specs.declared.pieces.Piece.TheVariants.{
  Refine,
  Ray,
  Near,
  Project,
  WorldBasis,
  Edges,
  Push,
}
