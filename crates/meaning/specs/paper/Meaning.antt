-- Paper 01, 5, in its order. Words in quotation marks are that section's. A set is a number, any natural number: abducible j is 2^j.
-- Assumes nothing.
use Rattle.std.specs.Prelude.{ℕ, zero, suc, ◌<◌, ◌≡◌, Bool, true, false, not, ◌&&◌, ◌||◌, List, eqb, ltb}
use Rattle.base.specs.paper.Bools.{choose}
use Rattle.base.specs.paper.Lists.{all, any, filter}
use Rattle.base.specs.paper.Members.{has, Inside}
use Rattle.image.specs.paper.Book.{Lit, Clause, Constraint, Book}

-- The first B atoms are abducible, the rest are defined (2.1).
abbrev pub abducible : Book → ℕ → Bool
abducible b p = ltb p b.abducibles

-- the clauses for p, in the book's order
unfoldable pub clauses_for : Book → ℕ → List Clause
clauses_for b p = filter (λ (c : Clause). eqb c.head p) b.clauses

-- Where each atom has the value that v gives, a literal is true if it is an atom that is true or the negation of one that is false.
abbrev pub true_in : (ℕ → Bool) → Lit → Bool
true_in v l = choose l.sign (v l.atom) (not (v l.atom))

-- every literal of the list is true
abbrev pub all_true : (ℕ → Bool) → List Lit → Bool
all_true v ls = all (true_in v) ls

-- some clause of the list has every body literal true
abbrev pub some_body : (ℕ → Bool) → List Clause → Bool
some_body v cs = any (λ (c : Clause). all_true v c.body) cs

-- "Under D an abducible is true exactly if it is a member of D. A defined atom is true exactly if it has a clause all of whose body
-- literals are true."
abbrev pub found : Book → ℕ → (ℕ → Bool) → ℕ → Bool
found b d v p = choose (abducible b p) (has d p) (some_body v (clauses_for b p))

-- "The value of an atom is worked out from the values of the atoms in its clauses, and theirs in the same way": here down to a depth of n.
unfoldable pub valued : Book → ℕ → ℕ → ℕ → Bool
valued b d zero p = false
valued b d (suc n) p = found b d (valued b d n) p

-- No chain of atoms in a book without loops is longer than there are atoms, so that this depth leaves nothing out (Model).
abbrev pub depth : Book → ℕ
depth b = suc b.atoms

abbrev pub value : Book → ℕ → ℕ → Bool
value b d p = valued b d (depth b) p

-- "A constraint holds where one of its conditions is false, or where all literals of one of its alternatives are true."
abbrev pub holds : (ℕ → Bool) → Constraint → Bool
holds v k = any (λ (l : Lit). not (true_in v l)) k.conditions || any (all_true v) k.alternatives

-- "D explains where each goal literal is true and each constraint holds."
abbrev pub explains : Book → ℕ → Bool
explains b d = all_true (value b d) b.goal && all (holds (value b d)) b.constraints

-- every member of D is an abducible of the book
abbrev pub Members : Book → ℕ → Type 0
Members b d = (j : ℕ) → has d j ≡ true → j < b.abducibles

-- "D is smallest where it explains and none of its proper subsets does"; and it is a set of abducibles.
pub record Smallest (b : Book) (d : ℕ) : Type 0 where
  pub abducibles : Members b d
  pub explaining : explains b d ≡ true
  pub least : (s : ℕ) → Inside s d → explains b s ≡ true → s ≡ d
