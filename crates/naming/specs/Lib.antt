-- The names of a text: where they stand, the table of them, and the words with their numbers.
pub mod Spans
pub mod Chains
pub mod Names
pub mod Words
pub mod Taken
