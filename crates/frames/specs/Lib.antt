-- How ways are taken and gone back to, over the machine's memory.
pub mod Ways
pub mod Undo
pub mod Back
