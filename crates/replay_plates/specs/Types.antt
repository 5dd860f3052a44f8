-- The structs and enums that definitions of this crate name: those of its src/, and those of the
-- crates below.
pub use Rattle.plates.specs.declared.plate.Plate.{Plate}
pub use Rattle.plates.specs.declared.outcome.Outcome.{Outcome}
pub use Rattle.preview.specs.declared.preview.Shown.{Shown}
pub use Rattle.replay_plates.specs.declared.handlings.Handling.{Handling}
pub use Rattle.replay_plates.specs.declared.handlings.Handling.TheVariants.{
  Make,
  Replace,
  Exchange,
  Scale,
  Solve,
  Preview,
}
