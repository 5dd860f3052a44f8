-- The enums that definitions and laws of this crate name: those of its src/, and those of the
-- crates below.
pub use Rattle.std.specs.declared.cmp.Ordering.{Ordering}
pub use Rattle.std.specs.declared.cmp.Ordering.TheVariants.{Less, Equal, Greater}
pub use Rattle.polynomial.specs.declared.Roots.{Roots}
pub use Rattle.polynomial.specs.declared.Roots.TheVariants.{Two, Double, Lifted, One, Refused}
pub use Rattle.replay_doubles.specs.declared.operations.Operation.{Operation}
pub use Rattle.replay_doubles.specs.declared.operations.Operation.TheVariants.{
  Abs,
  Copysign,
  Max,
  Clamp,
  IsFinite,
  TotalOrder,
  TotalCmp,
  Sqrt,
  Cbrt,
  Fma,
}
pub use Rattle.replay_doubles.specs.declared.roots.Finder.{Finder}
pub use Rattle.replay_doubles.specs.declared.roots.Finder.TheVariants.{
  Quadratic,
  Cubic,
  FastCbrt,
}
