-- The programs' own buffers of bytes.
pub mod Buffers
