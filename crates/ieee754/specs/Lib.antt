-- The definitions that the contracts of this crate cite, in reading order; then those that the
-- formulas above and the scaling rule are stated with, Traced and Scaling.
pub mod Types
pub mod Literal
pub mod Magnitude
pub mod CopySign
pub mod Maximum
pub mod Clamp
pub mod TotalOrder
pub mod Root
pub mod Fma
pub mod Traced
pub mod Scaling
