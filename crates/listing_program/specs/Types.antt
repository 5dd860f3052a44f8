-- The structs and enums that definitions and laws of this crate name: those of its src/, of std,
-- and of the crates below.
pub use Rattle.std.specs.Prelude.{Option, Some, None}
pub use Rattle.records.specs.declared.record.Record.{Record}
pub use Rattle.listing_records.specs.declared.record.Course.{Course}
pub use Rattle.listing_records.specs.declared.record.Course.TheVariants.{Write, Read, Next, Closed}
pub use Rattle.listing_program.specs.declared.run.State.{State}
pub use Rattle.listing_program.specs.declared.stream.Filling.{Filling}
pub use Rattle.listing_program.specs.declared.stream.Filling.TheVariants.{Filled, End}
pub use Rattle.listing_program.specs.declared.stream.Filling.TheVariants.{Failed}
pub use Rattle.listing_program.specs.declared.command.Request.{Request}
pub use Rattle.listing_program.specs.declared.command.Request.TheVariants.{Listing, Help}
pub use Rattle.listing_program.specs.declared.command.Request.TheVariants.{Version, Usage}
