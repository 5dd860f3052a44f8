-- The solve without marks: what has a mark elsewhere or is built on that, text for text as it was
-- before the marks, but for `basis_of` and `with_some`, which came later. The rest is imported.
pub mod Types
pub mod Quadratic
pub mod EigenPair
pub mod KnownZero
pub mod DepthSlots
pub mod Charts
pub mod Signs
pub mod Slots
pub mod Poses
pub mod Solve
pub mod Forget
