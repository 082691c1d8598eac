-- What must be believed, paper 02, A4.4 to A4.9: what `clean` answers to a group and what it leaves, and what the answer means.
pub mod Cleaning
