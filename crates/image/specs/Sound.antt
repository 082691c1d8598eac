-- What an accepted book has beyond its data: refusals 6 to 9 of paper 01, 4.1, each turned round.
-- Assumes nothing.
use Rattle.std.specs.Prelude.{ℕ, ◌<◌, ◌≤◌, ◌≡◌, List, []}
use Rattle.base.specs.paper.Lists.{◌∈◌, Every}
use Rattle.image.specs.paper.Book.{Lit, Clause, Constraint, Book}

-- A rank that falls from each head to each atom of its body: what a book without loops has.
abbrev pub Ranks : List Clause → (ℕ → ℕ) → Type 0
Ranks cs rank = (c : Clause) → c ∈ cs → (l : Lit) → l ∈ c.body → rank l.atom < rank c.head

-- every literal names an atom of the book
abbrev pub Known : Book → List Lit → Type 0
Known b ls = Every (λ (l : Lit). l.atom < b.atoms) ls

pub record Orderly (b : Book) : Type 0 where
  -- the abducibles are atoms
  pub assumable : b.abducibles ≤ b.atoms
  -- the atom of each literal, and each head, is below A (6)
  pub goal_known : Known b b.goal
  pub heads_known : Every (λ (c : Clause). c.head < b.atoms) b.clauses
  pub bodies_known : Every (λ (c : Clause). Known b c.body) b.clauses
  pub conditions_known : Every (λ (k : Constraint). Known b k.conditions) b.constraints
  pub alternatives_known : Every (λ (k : Constraint). Every (Known b) k.alternatives) b.constraints
  -- no head is abducible (7)
  pub heads_defined : Every (λ (c : Clause). b.abducibles ≤ c.head) b.clauses
  -- no alternative is without a literal (8)
  pub alternatives_named : Every (λ (k : Constraint). Every (λ (ls : List Lit). ls ≡ [] → ⊥) k.alternatives) b.constraints
  -- no atom depends on itself (9): a rank falls from each head to each atom of its body, and never passes the number of atoms
  pub rank : ℕ → ℕ
  pub falls : Ranks b.clauses rank
  pub ranked : (p : ℕ) → rank p ≤ b.atoms
