-- The definition that the contract of this crate cites, and what is proved of it.
pub mod Types
pub mod Preview
pub mod Shows
