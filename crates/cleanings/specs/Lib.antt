-- The buffer that a file of groups is taken into.
pub mod Buffers
