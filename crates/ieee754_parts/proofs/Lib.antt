-- What the proofs of this crate's functions share, from tests, numbers and words up to rounding and
-- sums; and doubles by their bit patterns.
pub mod Tests
pub mod Sizes
pub mod Carry
pub mod Thirds
pub mod Nearest
pub mod Jam
pub mod Rounding
pub mod Sums
pub mod Reading
pub mod Patterns
