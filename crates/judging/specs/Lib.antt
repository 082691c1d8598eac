-- The judge's promise, the laws on it, and what its inner functions say.
pub mod paper
pub mod FailingLaws
pub mod JudgedLaws
pub mod Notes
pub mod Sounded
