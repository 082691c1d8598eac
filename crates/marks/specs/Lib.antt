-- Marks of atoms as bits: what is marked, and the laws on it.
pub mod Marked
pub mod MarkLaws
