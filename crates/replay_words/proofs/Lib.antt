-- Lemmas of this crate.
pub mod Growth
