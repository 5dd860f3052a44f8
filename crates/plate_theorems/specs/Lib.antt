-- What the theorems about plates say.
pub mod OneAnswerPlate
pub mod OneAnswerPreview
pub mod ScaledPlate
