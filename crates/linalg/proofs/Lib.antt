-- The laws that crates above use: how the operations on vectors and matrices scale, that a regular
-- squared length is zero or normal, that a difference reversed is as long, what is finite with a
-- vector, and what opens every definition.
pub mod VectorDegrees
pub mod MatrixDegrees
pub mod SquaredLength
pub mod Reversed
pub mod Finite
pub mod Evaluated
