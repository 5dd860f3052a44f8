-- The definitions that the contracts of this crate cite, in reading order.
pub mod Types
pub mod PlateContents
pub mod Exponents
pub mod HandlingRecords
