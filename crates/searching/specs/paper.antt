-- What must be believed: the search rules, the size of the tree, the list that demand 3 asks for, and the second search of paper 02, A3.
pub mod Rules
pub mod Tree
pub mod Explanations
pub mod Seek
