-- Sets as numbers, the kept sets and their order: the definitions, and the laws on them.
pub mod paper
pub mod SetLaws
pub mod Bits
pub mod KeptLaws
