-- The buffer that an image is taken into.
pub mod Buffers
