-- The laws that crates above cite: the camera point's, and those of lists of slots.
pub mod PoseDegrees
pub mod Entries
pub mod Evaluated
