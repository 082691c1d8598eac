-- Paper 02, A1.3 and A1.9: the book that a document says. "The atoms' numbers follow the text: first the abducibles, as each is met for the
-- first time, then the others likewise." "First appearance: a head before its body, left before right, the goal
-- line last."
-- Assumes nothing.
use Rattle.std.specs.Prelude.{ℕ, suc, Bool, not, List, [], ◌∷◌, ◌++◌, map, length}
use Rattle.base.specs.paper.Bools.{choose}
use Rattle.base.specs.paper.Lists.{flat, any, filter}
use Rattle.image.specs.paper.Book.{Lit, Clause, Constraint, Book}
use Rattle.spelling.specs.paper.Words.{Word, same}
use Rattle.spelling.specs.paper.Document.{Atom, Literal, Statement, clause, constraint, Document}

-- the atoms in the order of the text
abbrev pub atoms_in : List Literal → List Atom
atoms_in ls = map (λ (l : Literal). l.atom) ls

abbrev pub mentions_in : Statement → List Atom
mentions_in (clause a body) = a ∷ atoms_in body
mentions_in (constraint side ways) = atoms_in side ++ flat atoms_in ways

abbrev pub mentions : Document → List Atom
mentions d = flat mentions_in d.statements ++ atoms_in d.goal

-- each once, where it first stands
unfoldable pub firsts : List Word → List Word
firsts [] = []
firsts (w ∷ ws) = w ∷ filter (λ v. not (same v w)) (firsts ws)

abbrev pub names_of : (Atom → Bool) → List Atom → List Word
names_of kind ms = firsts (map (λ (a : Atom). a.name) (filter kind ms))

abbrev pub abducibles : Document → List Word
abducibles d = names_of (λ a. a.marked) (mentions d)

abbrev pub others : Document → List Word
others d = names_of (λ a. not a.marked) (mentions d)

-- the names by their numbers, from 0 on
abbrev pub numbered : Document → List Word
numbered d = abducibles d ++ others d

-- 51: "a name stands both with and without `abd`"
abbrev pub clashing : Document → Bool
clashing d = any (λ n. any (same n) (others d)) (abducibles d)

-- how many names stand before this one
abbrev pub number_of : List Word → Word → ℕ
number_of [] n = 0
number_of (w ∷ names) n = choose (same n w) 0 (suc (number_of names n))

module _ (names : List Word) where
  abbrev pub lit_in : Literal → Lit
  lit_in l = record { atom = number_of names l.atom.name; sign = l.sign }

  abbrev pub clauses_in : Statement → List Clause
  clauses_in (clause a body) = record { head = number_of names a.name; body = map lit_in body } ∷ []
  clauses_in (constraint side ways) = []

  abbrev pub constraints_in : Statement → List Constraint
  constraints_in (clause a body) = []
  constraints_in (constraint side ways) = record { conditions = map lit_in side; alternatives = map (map lit_in) ways } ∷ []

-- "Clauses and constraints may be mixed, and each kind keeps its order."
abbrev pub book_of : Document → Book
book_of d =
    record {
      atoms = length (numbered d);
      abducibles = length (abducibles d);
      goal = map (lit_in (numbered d)) d.goal;
      clauses = flat (clauses_in (numbered d)) d.statements;
      constraints = flat (constraints_in (numbered d)) d.statements;
    }
