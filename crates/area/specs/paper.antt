-- What must be believed: how long the work area is.
pub mod Work
