-- The definitions that the contracts of this crate and its theorems cite, in reading order.
pub mod Types
pub mod Bytes
pub mod Digits
pub mod Lines
