-- The structs and enums that definitions and laws of this crate name: those of its src/.
pub use Rattle.ieee754_parts.specs.declared.normal.Scaled.{Scaled}
pub use Rattle.ieee754_parts.specs.declared.unpack.Unpacked.{Unpacked}
pub use Rattle.ieee754_parts.specs.declared.wide.Wide.{Wide}
