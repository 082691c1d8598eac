-- What the machine's memory holds, and what becomes of its agenda.
pub mod States
pub mod Places
pub mod Machine
pub mod Memory
pub mod Sheet
pub mod Tasks
pub mod Bits
pub mod Marks
pub mod Pieces
pub mod Agreed
pub mod Chains
pub mod Agendas
pub mod Enter
pub mod Front
