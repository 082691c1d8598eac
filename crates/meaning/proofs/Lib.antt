pub mod Model
pub mod Entailed
