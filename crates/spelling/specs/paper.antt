-- What must be believed of a text: its words, the documents and how they are spelt, the book that a document says, the answer.
pub mod Words
pub mod Document
pub mod Spelt
pub mod Said
pub mod Answer
