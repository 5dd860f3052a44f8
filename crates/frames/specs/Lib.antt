-- The definitions that the contracts of this crate cite, and the relations of two runs' frames by
-- which the scaling laws above are stated.
pub mod Types
pub mod Points
pub mod Lent
pub mod Poses
pub mod FrameScaling
