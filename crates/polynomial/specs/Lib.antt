-- The definitions that the contracts of this crate cite, in reading order.
pub mod Types
pub mod Literal
pub mod Answer
pub mod Quadratic
pub mod PolishedRoot
pub mod OneAnswer
pub mod RootScaling
pub mod Cases
