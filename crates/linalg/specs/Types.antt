-- The structs and enums that definitions and laws of this crate name: those of its src/.
pub use Rattle.linalg.specs.declared.matrix3.Matrix3.{Matrix3}
pub use Rattle.linalg.specs.declared.vector3.Vector3.{Vector3}
