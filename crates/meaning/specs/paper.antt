-- What must be believed: the meaning of paper 01, 5, and the same in Fung and Kowalski's form, paper 003.
pub mod Meaning
pub mod Completion
