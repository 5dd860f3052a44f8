-- The definitions that the contracts of this crate cite, beside those of the crates below.
pub mod Types
pub mod Solved
pub mod Chosen
pub mod Plated
