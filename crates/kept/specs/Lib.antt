-- What the functions on kept sets leave in the lent list.
pub mod Agreed
