-- The definitions that the contracts of this crate cite, and the relation of the scaling rule
-- between two refinements.
pub mod Types
pub mod RefineDepths
pub mod RefinedScaling
