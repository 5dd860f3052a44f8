-- The structs and enums that definitions and laws of this crate name: those of its src/, and those
-- of the crates below.
pub use Rattle.cubic_parts.specs.declared.Monic.{Monic}
pub use Rattle.polynomial.specs.declared.Roots.{Roots}
pub use Rattle.polynomial.specs.declared.Roots.TheVariants.{Two, Double, Lifted, One, Refused}
pub use Rattle.polynomial.specs.declared.pair.RootPair.{RootPair}
