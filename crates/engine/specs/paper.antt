-- What must be believed: the verdict's promise. The other calls' promises stand with the crates that keep them.
pub mod Verdict
