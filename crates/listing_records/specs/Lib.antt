-- The definitions that the contracts of this crate cite, in reading order.
pub mod Types
pub mod FrameLines
pub mod RecordLines
pub mod Places
