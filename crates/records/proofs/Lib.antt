-- The laws of this crate, in reading order.
pub mod BigEndian
pub mod Answers
pub mod OneAnswer
pub mod RoundTrip
