-- The structs and enums that definitions and laws of this crate name: those of std and of the
-- crates below.
pub use Rattle.std.specs.Prelude.{Option, Some, None, Result, Ok}
pub use Rattle.linalg.specs.declared.matrix3.Matrix3.{Matrix3}
pub use Rattle.linalg.specs.declared.vector3.Vector3.{Vector3}
pub use Rattle.frames.specs.declared.bearings.Bearings.{Bearings}
pub use Rattle.frames.specs.declared.pose.Pose.{Pose}
pub use Rattle.frames.specs.declared.world.World.{World}
pub use Rattle.polynomial.specs.declared.Roots.{Roots}
pub use Rattle.refinement.specs.declared.refine_depths.Refined.{Refined}
pub use Rattle.p3p_common.specs.declared.input.P3pInput.{P3pInput}
pub use Rattle.p3p_common.specs.declared.solutions.Solutions.{Solutions}
pub use Rattle.eigen.specs.declared.known_zero.Eigensystem.{Eigensystem}
pub use Rattle.orderings.specs.declared.cubic.Coefficients.{Coefficients}
pub use Rattle.orderings.specs.declared.measured.Measured.{Measured}
pub use Rattle.depths.specs.declared.candidates.Candidates.{Candidates}
pub use Rattle.lambdatwist.specs.declared.solve.Answer.{Answer}
pub use Rattle.choice.specs.declared.choose.Best.{Best}
pub use Rattle.about.specs.declared.solve_about.AnswerAbout.{AnswerAbout}
