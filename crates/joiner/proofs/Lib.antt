-- What the proof uses: the ways a join comes to its end.
pub mod Joining
