-- What must be believed: the joiner's promise.
pub mod Join
