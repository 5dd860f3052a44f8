-- The structs and enums that definitions and laws of this crate name: those of its src/, of std,
-- and of the crates below.
pub use Rattle.std.specs.Prelude.{Result}
pub use Rattle.linalg.specs.declared.vector3.Vector3.{Vector3}
pub use Rattle.frames.specs.declared.pose.Pose.{Pose}
pub use Rattle.frames.specs.declared.bearings.Bearings.{Bearings}
pub use Rattle.frames.specs.declared.world.World.{World}
pub use Rattle.p3p_common.specs.declared.input.P3pInput.{P3pInput}
pub use Rattle.lambdatwist.specs.declared.solve.Answer.{Answer}
pub use Rattle.choice.specs.declared.choose.Best.{Best}
pub use Rattle.about.specs.declared.solve_about.AnswerAbout.{AnswerAbout}
