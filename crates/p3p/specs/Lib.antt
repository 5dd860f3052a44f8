-- The definitions that the contracts of this crate cite, beside those of the crates below.
pub mod Types
pub mod Answer
pub mod RootsLent
pub mod SolveLent
pub mod ChooseLent
pub mod AboutLent
pub mod PlateLent
pub mod PreviewLent
pub mod RecordLent
