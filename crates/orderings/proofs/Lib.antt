-- What is stated of the choice of another ordering; the scaling laws of the stages, in the order of
-- a solve; and the definitions that compute.
pub mod NanCondition
pub mod EdgeScaling
pub mod CubicScaling
pub mod MeasureScaling
pub mod PermutationScaling
pub mod Evaluated
