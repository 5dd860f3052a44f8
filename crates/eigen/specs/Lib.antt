-- The definitions that the contracts of this crate cite: what eig_with_known_zero of lambdatwist.rs
-- computes, line by line.
pub mod Types
pub mod RowCrosses
pub mod ZeroVector
pub mod EigenPair
pub mod EigenvectorOf
pub mod KnownZero
pub mod Eigenpairs
