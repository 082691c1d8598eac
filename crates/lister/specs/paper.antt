-- What must be believed: the lister's promise.
pub mod Promise
