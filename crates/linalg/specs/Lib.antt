-- nalgebra's operations on vectors and matrices of three doubles a side, each with its order of
-- operations.
pub mod Types
pub mod Vectors
pub mod Doubles
pub mod Matrices
pub mod VectorScaling
