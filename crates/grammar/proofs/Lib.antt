pub mod Goal
pub mod Reading
pub mod PlaceLaws
