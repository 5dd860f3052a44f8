-- What the functions of this crate return, on whole numbers and parts of doubles, from which the
-- operations are made.
pub mod Types
pub mod Value
pub mod Unpacked
pub mod Jam
pub mod Rounded
pub mod Normal
pub mod Leading
