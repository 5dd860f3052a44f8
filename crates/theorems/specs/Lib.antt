-- The theorems' statements, the frames that they name, and whole answers.
pub mod Types
pub mod OneAnswer
pub mod OneAnswerAbout
pub mod LiftedEigenvalues
pub mod ScalingRule
pub mod ScalingRuleAbout
pub mod Plates
pub mod PremiseCases
pub mod Cases
pub mod Answers
pub mod GridPlates
pub mod BehindCamera
pub mod LiftedPair
