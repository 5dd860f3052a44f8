-- What the proofs of this crate's functions share: where 2 ^ k times a double is taken, and that it
-- is a double; then the limits, computed.
pub mod ScalableLaws
pub mod TimesLaws
mod Limits
