-- The theorems about plates.
pub mod OneAnswerPlate
pub mod OneAnswerPreview
pub mod ScaledPlate
