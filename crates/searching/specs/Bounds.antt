-- What a search must hold: the steps of a path that must be undone or chosen again.
-- Assumes nothing.
use Rattle.std.specs.Prelude.{ℕ, suc, ◌+◌, ◌<◌, List, length}
use Rattle.base.specs.paper.Bools.{choose}
use Rattle.base.specs.paper.Lists.{Every, sum, below}
use Rattle.image.specs.paper.Book.{Lit, Clause, Constraint, Book}
use Rattle.image.specs.Sound.{Known}
use Rattle.meaning.specs.paper.Meaning.{clauses_for}
use Rattle.searching.specs.paper.Rules.{Task, want, pick, Node, on}
use Rattle.searching.specs.paper.Tree.{marked}

-- a step that must be held counts one: a literal joins, or one of several lists is picked
unfoldable pub held : List Lit → Task → ℕ
held s (want l) = choose (on s l) 0 1
held s (pick ways) = 1

-- the literals of a constraint
abbrev pub literals : Constraint → ℕ
literals k = length k.conditions + sum length k.alternatives

-- a choice counts one
abbrev pub choice : Task → ℕ
choice (want l) = 0
choice (pick ways) = 1

-- an atom that stands on no side counts one, and one for each of its clauses
abbrev pub free : Book → List Lit → ℕ → ℕ
free b s p = choose (marked s p) 0 (suc (length (clauses_for b p)))

-- the steps yet to come that must be held: the choices on the agenda, and what the free atoms can bring
unfoldable pub frames : Book → Node → ℕ
frames b n = sum choice n.agenda + sum (free b n.sheet) (below b.atoms)

-- the task names atoms of the book only
abbrev pub Named : Book → Task → Type 0
Named b (want l) = l.atom < b.atoms
Named b (pick ways) = Every (Known b) ways
