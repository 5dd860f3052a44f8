-- What the proofs of this crate's functions share: tests, powers, signs, how a double is written,
-- roots from powers up to the digits and exponent of a double's root, the machine's root, and the
-- fused multiply-add's value; then worked examples of the definitions.
pub mod Tests
pub mod PowerLaws
pub mod Sign
pub mod Unique
pub mod RootLaws
pub mod RootValues
mod RootAlike
pub mod RootIeee
pub mod Exponent
mod FmaValue
pub mod Evaluated
mod Examples
