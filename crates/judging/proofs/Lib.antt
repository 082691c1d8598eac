-- What the proofs share: parts of the image, the notes, the scans of clauses and constraints, and the answer.
pub mod Image
pub mod Memo
pub mod Scan
pub mod Run
pub mod Constraint
pub mod Answer
