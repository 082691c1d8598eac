-- The rule book of paper 01, 2: literals, clauses, constraints, and the book itself.
-- Atoms have numbers, from 0 on; the first `abducibles` of them are abducible, the rest are defined.
-- Assumes nothing.
use Rattle.std.specs.Prelude.{ℕ, ◌+◌, Bool, List, length}
use Rattle.base.specs.paper.Lists.{sum}

-- an atom (sign true) or its negation (sign false)
pub record Lit : Type 0 where
  pub atom : ℕ
  pub sign : Bool

-- a head and a body, which is a list of literals; where that is empty, a fact
pub record Clause : Type 0 where
  pub head : ℕ
  pub body : List Lit

-- condition literals, perhaps none, and alternatives, perhaps none, each a list of literals
pub record Constraint : Type 0 where
  pub conditions : List Lit
  pub alternatives : List (List Lit)

pub record Book : Type 0 where
  pub atoms : ℕ
  pub abducibles : ℕ
  pub goal : List Lit
  pub clauses : List Clause
  pub constraints : List Constraint

-- the literals of a clause's body, and of a whole constraint: what the limits count
abbrev pub body_count : Clause → ℕ
body_count c = length c.body

abbrev pub literal_count : Constraint → ℕ
literal_count k = length k.conditions + sum length k.alternatives
