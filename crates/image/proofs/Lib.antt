pub mod LoopLaws
pub mod Accepted
