-- What the calls on texts do in parts.
pub mod Given
pub mod Delivered
pub mod Lines
pub mod Made
pub mod Drafted
pub mod Named
