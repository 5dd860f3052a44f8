-- The definitions that the contracts of this crate cite, in the order of a solve: what
-- lambdatwist.rs measures of an ordering, line by line, and the choice of another.
pub mod Types
pub mod Edges
pub mod Angles
pub mod Cubic
pub mod Basis
pub mod Measure
pub mod Condition
pub mod Permutation
