-- The program's own buffers.
pub mod Buffers
