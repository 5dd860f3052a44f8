-- Laws of plates: the operations keep their promise, and the solve with a plate is the solve of
-- demand 2.
pub mod TargetNumbers
pub mod PowerLaws
pub mod Operations
mod SourceLaws
mod OrderingLaws
pub mod AsSolve
