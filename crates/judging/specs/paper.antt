-- What must be believed: the judge's promise.
pub mod Failing
pub mod Judged
