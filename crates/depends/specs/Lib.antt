-- Which clause is the first whose head depends on itself: marking by rounds, and the clauses before it.
pub mod Spreading
pub mod Passing
pub mod Before
