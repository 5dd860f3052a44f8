-- The laws of this crate, in reading order.
pub mod PoseLines
pub mod Places
