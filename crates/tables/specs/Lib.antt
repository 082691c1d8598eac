-- What the filling of the tables leaves.
pub mod Clauses
pub mod Constraints
pub mod Filling
