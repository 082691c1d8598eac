-- What the proofs share: the search for a set that passes a test, and the loops' invariants.
pub mod Finding
pub mod Loops
