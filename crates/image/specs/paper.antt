-- What must be believed, paper 01, 2 to 4: what a book is, where its image begins, the walk over the image, the faults of its
-- fields, what depends on itself, what an image says, how a book is written; and paper 02, 0.2, what a call that writes leaves.
pub mod Book
pub mod Front
pub mod Walk
pub mod Faults
pub mod Loops
pub mod Decode
pub mod Spell
pub mod Refusals
pub mod Writing
