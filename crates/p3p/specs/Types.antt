-- The structs and enums that definitions and laws of this crate name: those of the crates below.
pub use Rattle.std.specs.Prelude.{Result}
pub use Rattle.std.specs.declared.cmp.Ordering.{Ordering}
pub use Rattle.std.specs.declared.cmp.Ordering.TheVariants.{Less, Equal, Greater}
pub use Rattle.linalg.specs.declared.vector3.Vector3.{Vector3}
pub use Rattle.frames.specs.declared.bearings.Bearings.{Bearings}
pub use Rattle.frames.specs.declared.pose.Pose.{Pose}
pub use Rattle.frames.specs.declared.squared_edges.SquaredEdges.{SquaredEdges}
pub use Rattle.frames.specs.declared.world.World.{World}
pub use Rattle.polynomial.specs.declared.Roots.{Roots}
pub use Rattle.polynomial.specs.declared.Roots.TheVariants.{Refused}
pub use Rattle.lambdatwist.specs.declared.solve.Answer.{Answer}
pub use Rattle.choice.specs.declared.choose.Best.{Best}
pub use Rattle.about.specs.declared.solve_about.AnswerAbout.{AnswerAbout}
pub use Rattle.plates.specs.declared.plate.Plate.{Plate}
pub use Rattle.plates.specs.declared.outcome.Outcome.{Outcome}
pub use Rattle.preview.specs.declared.preview.Shown.{Shown}
pub use Rattle.records.specs.declared.record.Record.{Record}
pub use Rattle.records.specs.declared.record.Record.TheVariants.{End, Stop, Skip, Accepted}
