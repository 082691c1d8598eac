-- The definitions that all floors share, and their laws.
pub mod paper
pub mod Bools
pub mod Lists
pub mod Parts
pub mod Stores
pub mod Order
pub mod Least
pub mod Tests
pub mod Flat
pub mod Below
pub mod Scans
