-- The lister's promise, and the ways to it.
pub mod paper
pub mod PromiseLaws
pub mod Whole
