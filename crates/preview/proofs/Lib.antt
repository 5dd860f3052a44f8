-- What a preview shows, by the plate's points.
pub mod PreviewShows
