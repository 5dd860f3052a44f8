-- The structs that definitions and laws of this crate name: those of its src/.
pub use Rattle.cubic_parts.specs.declared.Monic.{Monic}
