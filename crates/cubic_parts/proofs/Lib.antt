-- The loop of Newton's steps, and what opens every definition.
pub mod NewtonTurns
pub mod Evaluated
