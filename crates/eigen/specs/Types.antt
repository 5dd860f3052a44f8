-- The structs and enums that definitions and laws of this crate name: those of its src/, and those
-- of the crates below.
pub use Rattle.std.specs.Prelude.{Option, Some, None}
pub use Rattle.std.specs.declared.cmp.Ordering.{Ordering}
pub use Rattle.std.specs.declared.cmp.Ordering.TheVariants.{Less, Equal, Greater}
pub use Rattle.linalg.specs.declared.matrix3.Matrix3.{Matrix3}
pub use Rattle.linalg.specs.declared.vector3.Vector3.{Vector3}
pub use Rattle.polynomial.specs.declared.pair.RootPair.{RootPair}
pub use Rattle.eigen.specs.declared.eigenpairs.Eigenpairs.{Eigenpairs}
pub use Rattle.eigen.specs.declared.eigenvector.Precomputed.{Precomputed}
pub use Rattle.eigen.specs.declared.known_zero.Eigensystem.{Eigensystem}
