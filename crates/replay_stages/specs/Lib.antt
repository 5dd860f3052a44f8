-- The definitions that the contracts of this crate cite, in reading order.
pub mod Types
pub mod EigenRecords
pub mod AnswerRecords
pub mod FrameRecords
pub mod StageRecords
