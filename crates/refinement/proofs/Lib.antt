-- The refinement's loop, how it scales, how many updates it makes, and what opens every definition.
pub mod Turns
pub mod RefineScaling
pub mod FewUpdates
pub mod Evaluated
