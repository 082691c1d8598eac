-- The codes of the answers for callers in C, and that they tell the answers apart.
pub mod paper
pub mod Bounds
