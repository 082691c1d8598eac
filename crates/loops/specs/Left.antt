-- What a `Clauses` has left, what a `Record` and an `Atoms` lend.
-- Assumes nothing.
use Rattle.std.specs.Prelude.{ℕ, List, map}
use Rattle.image.specs.paper.Book.{Lit, Clause}
use Rattle.loops.specs.declared.clauses.Clauses.{Clauses}
use Rattle.loops.specs.declared.clauses.Record.{Record}
use Rattle.loops.specs.declared.clauses.Atoms.{Atoms}
use Rattle.loops.specs.Records.{clause_in, clauses_in, lits_in, Known, recorded_known}

abbrev pub clauses_of : Clauses → List Clause
clauses_of cs = clauses_in cs.rest.now cs.left

abbrev pub clause_of : Record → Clause
clause_of c = clause_in c.part.now

abbrev pub atoms_of : Atoms → List ℕ
atoms_of a = map (λ (l : Lit). l.atom) (lits_in a.rest.now)

-- each atom that they name is one of the book's
pub known_of : (cs : Clauses) → Known cs.atoms (clauses_of cs)
known_of cs = recorded_known cs.atoms cs.rest.now cs.left cs.known.1 cs.stand
