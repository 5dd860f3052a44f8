-- The definitions that the contracts of this crate cite: what lambdatwist.rs computes from the
-- depth candidates on, the retry, and the solve, line by line; and the slots that the code fills.
pub mod Types
pub mod Poses
pub mod Solve
pub mod LentSlots
