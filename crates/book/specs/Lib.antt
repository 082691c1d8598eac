-- The reader's promise, and the ways to its answer.
pub mod paper
pub mod ReadingLaws
