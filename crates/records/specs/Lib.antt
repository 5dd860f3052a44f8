-- The definitions that the contracts of this crate and its theorems cite, in reading order.
pub mod Types
pub mod Format
pub mod Record
pub mod OneAnswer
pub mod Encoding
