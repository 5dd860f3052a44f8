-- The laws that crates above use: how the answers scale and what follows them, what holds where a
-- `match` has ruled one out, what opens every definition, and the cases that document 01 marks.
mod CutToZero
pub mod OneAnswer
pub mod RootScaling
pub mod QuadraticScaling
pub mod CubicScaling
pub mod RootTags
pub mod Every
pub mod Evaluated
pub mod RootCases
