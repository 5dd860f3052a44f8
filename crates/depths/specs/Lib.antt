-- The definitions that the contracts of this crate cite, in the order of a solve: what
-- lambdatwist.rs computes up to the depth candidates, line by line; and what the code appends to
-- these.
pub mod Types
pub mod Matrix
pub mod RatioOf
pub mod DepthSlots
pub mod Charts
pub mod Signs
pub mod Pushed
