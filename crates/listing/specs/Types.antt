-- The structs and enums that definitions and laws of this crate name: those of its src/, and those
-- of the crates below.
pub use Rattle.linalg.specs.declared.vector3.Vector3.{Vector3}
pub use Rattle.frames.specs.declared.pose.Pose.{Pose}
pub use Rattle.listing.specs.declared.line.Slot.{Slot}
pub use Rattle.listing.specs.declared.line.Line.{Line}
pub use Rattle.listing.specs.declared.line.Line.TheVariants.{Header, Refused, Accepted, Stop, End}
pub use Rattle.listing.specs.declared.line.Line.TheVariants.{Pose as PoseLine}
