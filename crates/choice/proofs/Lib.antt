-- The laws of this crate.
pub mod Turns
pub mod Evaluated
pub mod OneAnswer
pub mod Refusal
pub mod TargetNotFinite
