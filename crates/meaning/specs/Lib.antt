-- The meaning of a rule book: the definitions, that values are the only model of the clauses, and that the two forms are one.
pub mod paper
