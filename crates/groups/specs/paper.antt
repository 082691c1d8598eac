-- What must be believed, paper 02, A4.2 and A4.3: what a group record says, and the book with the facts of a group.
pub mod Group
