-- What must be believed: the reader's promise.
pub mod Reading
