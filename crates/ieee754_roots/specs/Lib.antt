-- What the functions of this crate return.
pub mod Nearest
