-- The verdict's promise, and the laws on it.
pub mod paper
pub mod VerdictLaws
