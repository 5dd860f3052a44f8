-- How the eigensystem scales, which one pairs are read of, that lifted eigenvalues are equal, and
-- what opens every definition.
pub mod EigenvectorScaling
pub mod EigenvalueScaling
pub mod SystemScaling
pub mod EigenpairsRead
pub mod EqualEigenvalues
pub mod Evaluated
