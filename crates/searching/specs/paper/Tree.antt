-- The search tree without a budget: the nodes from a start on in visiting order, and its size. It is finite for every book, since a
-- number falls from each node to each of its children (TreeLaws).
-- Assumes nothing.
use Rattle.std.specs.Prelude.{ℕ, zero, suc, ◌+◌, Bool, List, [], ◌∷◌, eqb, length}
use Rattle.base.specs.paper.Bools.{choose}
use Rattle.base.specs.paper.Lists.{any, flat, sum}
use Rattle.image.specs.paper.Book.{Lit, Clause, Book}
use Rattle.searching.specs.paper.Rules.{Task, want, pick, Node, children}

-- what a task can still cost: each literal once wanted, and one for the choice
abbrev pub weight : Task → ℕ
weight (want l) = 1
weight (pick ways) = suc (sum length ways)

-- the atom stands on the sheet, in T or in F
unfoldable pub marked : List Lit → ℕ → Bool
marked s p = any (λ (m : Lit). eqb p m.atom) s

-- what a clause can still cost: nothing once its head stands on the sheet
abbrev pub waiting : List Lit → Clause → ℕ
waiting s c = choose (marked s c.head) 0 (suc (length c.body))

-- the number that falls: what the agenda costs, and what the clauses can still bring
unfoldable pub potential : Book → Node → ℕ
potential b n = sum weight n.agenda + sum (waiting n.sheet) b.clauses

-- the nodes from n on, where "all that lies below one comes before the next one" (paper 01, 7.4), down to a depth of k
unfoldable pub descend : Book → ℕ → Node → List Node
descend b zero n = []
descend b (suc k) n = n ∷ flat (descend b k) (children b n)

-- the nodes of the tree in visiting order: the potential is deep enough
unfoldable pub visits : Book → Node → List Node
visits b n = descend b (suc (potential b n)) n

abbrev pub size : Book → Node → ℕ
size b n = length (visits b n)
