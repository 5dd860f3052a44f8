-- The definitions that the contracts of this crate cite, in reading order.
pub mod Types
pub mod Literal
pub mod FastCbrt
pub mod Cardano
pub mod CubicScale
pub mod CubicStart
pub mod Newton
