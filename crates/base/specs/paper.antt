-- What must be believed: choices, lists, order, the smallest of a family, numbers as sets.
pub mod Bools
pub mod Lists
pub mod Order
pub mod Least
pub mod Members
