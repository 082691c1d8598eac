-- The walk of the search, from its start to its end.
pub mod Agreed
pub mod Steps
pub mod Start
