-- The search: its rules and its tree, and what a finished search lists.
pub mod paper
pub mod Bounds
