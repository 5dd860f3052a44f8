-- Where 2 ^ k times a double is exact and not below the normal range.
pub mod Scalable
