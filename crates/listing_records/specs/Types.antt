-- The structs and enums that definitions and laws of this crate name: those of its src/, and those
-- of the crates below.
pub use Rattle.linalg.specs.declared.vector3.Vector3.{Vector3}
pub use Rattle.frames.specs.declared.frame.Frame.{Frame}
pub use Rattle.frames.specs.declared.pose.Pose.{Pose}
pub use Rattle.lambdatwist.specs.declared.solve.Answer.{Answer}
pub use Rattle.listing.specs.declared.line.Slot.{Slot}
pub use Rattle.records.specs.declared.record.Record.{Record}
pub use Rattle.records.specs.declared.record.Record.TheVariants.{End, Stop, Skip, Accepted}
pub use Rattle.records.specs.declared.refusal.RecordRefusal.TheVariants.{Length, Version, Short}
pub use Rattle.listing_records.specs.declared.record.Course.{Course}
pub use Rattle.listing_records.specs.declared.record.Course.TheVariants.{Write, Read, Next}
pub use Rattle.listing_records.specs.declared.record.Course.TheVariants.{Closed}
