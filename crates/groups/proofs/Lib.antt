pub mod GroupLaws
pub mod Pieces
pub mod Writes
