-- What must be believed: numbers as sets, the kept sets and the order of the list.
pub mod Sets
pub mod Kept
