-- What must be believed: the place of a refusal, in words.
pub mod Places
