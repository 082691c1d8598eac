-- The loop check's marks: the clause records as it reads them, their order, and what a round over them leaves.
pub mod Records
pub mod Left
pub mod Naming
pub mod Order
pub mod Rounds
pub mod Passing
