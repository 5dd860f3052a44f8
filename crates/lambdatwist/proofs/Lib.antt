-- What the proofs of several functions use; of an answer, that its poses are kept ones and its
-- slots four; and the scaling laws of the stages, in the order of a solve, up to `solve`.
mod PoseTurns
mod Filling
pub mod KeptPoses
pub mod AnswerSlots
mod Retries
pub mod PoseScaling
pub mod SolveScaling
pub mod Evaluated
