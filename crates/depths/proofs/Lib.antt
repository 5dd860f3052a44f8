-- How many slots candidates have, and how many they are; the scaling laws of the stages, in the
-- order of a solve; that equal eigenvalues have no real ratio; and the definitions that compute.
pub mod CandidateSlots
pub mod CandidateCount
pub mod MatrixScaling
pub mod RatioScaling
pub mod EqualRatio
pub mod ChartScaling
pub mod SignScaling
pub mod Evaluated
