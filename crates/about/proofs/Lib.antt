-- Laws of the differences, that the answer is the solve's of the differences, how both scale, that
-- the subtractions count among the premise's operations, that the choice refuses a difference that
-- is not finite; and the entry by which a solve about the first target computes.
pub mod DifferenceLaws
pub mod AsSolve
pub mod AboutScaling
pub mod Overflow
pub mod ChoiceNotFinite
pub mod Evaluated
