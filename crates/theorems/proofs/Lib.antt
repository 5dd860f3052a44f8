-- The answer to eighteen doubles, plain and about the first target, why one retry is enough, why no
-- pose has its mark from the eigenvalues, the scaling rule of both solves with plates to which it
-- applies and some to which it does not, the cases of document 01, whole answers, the choices in a
-- frame one of whose poses puts the checking target behind the camera, and the answer of a frame
-- with a lifted pair.
pub mod OneAnswer
pub mod OneAnswerAbout
pub mod OneRetry
pub mod LiftedEigenvalues
pub mod TimesPower
mod FiniteTranslation
pub mod ScalingRule
pub mod ScalingRuleAbout
mod WorldTests
pub mod ScalingExamples
pub mod AboutExamples
pub mod PremiseCases
pub mod MarkedCases
pub mod Answers
pub mod BehindCamera
pub mod LiftedPair
