-- The driver's own buffers.
pub mod Buffers
