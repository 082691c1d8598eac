-- What must be believed: the codes of the calls for C, and their promises.
pub mod Codes
