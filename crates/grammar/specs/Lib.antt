-- Whether the words of a text, as codes, spell a document, and where its goal line stands.
pub mod Places
