-- The promise of `admits`, and the ways to it.
pub mod paper
pub mod AdmitLaws
