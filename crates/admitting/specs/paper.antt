-- What must be believed: the promise of `admits`.
pub mod Promise
