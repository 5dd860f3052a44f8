-- The definitions that the contracts of this crate cite, in reading order: the plate, the
-- operations on it, and the solve with it.
pub mod Types
pub mod Plate
pub mod Target
pub mod Outcome
pub mod Make
pub mod Replace
pub mod Exchange
pub mod TimesPower
pub mod Promise
pub mod Ordering
pub mod SolvePlate
