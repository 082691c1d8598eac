-- Words cut off a text: what the code finds, and the laws that it leans on.
pub mod CutOff
pub mod Classes
pub mod Spans
pub mod Begins
pub mod Entries
pub mod RunCodes
pub mod Off
