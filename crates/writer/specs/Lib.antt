-- The image of a document whose words are held as codes: what is written, and the laws on it.
pub mod Fields
pub mod Wrote
pub mod Due
pub mod Kinds
pub mod Names
pub mod Ways
pub mod Records
pub mod Inside
pub mod Whole
pub mod EachWord
pub mod OfLiterals
pub mod OfStatements
pub mod OfDocument
pub mod Room
pub mod Writable
