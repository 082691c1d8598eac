-- The place of a refusal in words, and that the reader gives it.
pub mod paper
