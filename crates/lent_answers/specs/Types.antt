-- The structs and enums that definitions and laws of this crate name: those of std and of the
-- crates below.
pub use Rattle.std.specs.Prelude.{Result, Ok, Err}
pub use Rattle.frames.specs.declared.pose.Pose.{Pose}
pub use Rattle.lambdatwist.specs.declared.solve.Answer.{Answer}
pub use Rattle.choice.specs.declared.choose.Best.{Best}
pub use Rattle.plates.specs.declared.plate.Plate.{Plate}
pub use Rattle.plates.specs.declared.outcome.Outcome.{Outcome}
