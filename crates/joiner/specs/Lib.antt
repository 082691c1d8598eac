-- The joiner's promise, the laws on it, and how its sets are gathered.
pub mod paper
pub mod JoinLaws
pub mod Gathering
