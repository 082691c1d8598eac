pub mod OfStatements
pub mod OfDocument
pub mod Writable
