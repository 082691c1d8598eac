-- The group record, and the image of a book with a group's facts.
pub mod paper
pub mod GroupLaws
pub mod RecordLaws
pub mod Wrote
pub mod Pieces
pub mod Writes
