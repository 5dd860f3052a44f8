-- The definitions that the contracts of this crate cite, in the order of a solve; what the slots
-- hold; and the relations of the scaling rule between two runs.
pub mod Types
pub mod Literal
pub mod Input
pub mod WorldBasisInverse
pub mod RotationFromEdges
pub mod NearOrthonormal
pub mod ProjectToRotation
pub mod RayFits
pub mod ProjectedPose
pub mod Gate
pub mod Slots
pub mod PushPose
pub mod PoseSlots
pub mod PoseScaling
