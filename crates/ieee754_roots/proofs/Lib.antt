-- What the proofs of this crate's functions share: the number nearest to a square root by squares,
-- found digit by digit, and to a cube root by cubes; a significand moved up.
mod Squares
mod Digits
mod Cubes
pub mod Moved
