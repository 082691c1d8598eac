-- The cleaner: what it promises, and the laws of it.
pub mod paper
pub mod Refusals
pub mod Told
pub mod Sorting
pub mod Looking
