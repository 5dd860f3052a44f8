-- The definitions that the contracts of this crate cite, in reading order.
pub mod Types
pub mod Differences
pub mod SolveAbout
pub mod ChooseAbout
