-- Paper 02, A3.2: the second search, "from a root at which h is wanted true before the goal is; its first success ends it".
-- Assumes nothing.
use Rattle.std.specs.Prelude.{ℕ, zero, suc, true, List, [], ◌∷◌, ◌++◌}
use Rattle.image.specs.paper.Book.{Book}
use Rattle.searching.specs.paper.Rules.{Task, want, Node, root, children}

-- the root of paper 01, 7, with h wanted true ahead of all else
abbrev pub root_with : Book → ℕ → Node
root_with b h = record { agenda = want (record { atom = h; sign = true }) ∷ (root b).agenda; sheet = [] }

-- How it ends: at its first success, after all nodes without one, or with a 30; and the nodes visited. "The node of the success counts."
pub data Seeking : Type 0 where
  admitted : ℕ → Seeking
  excluded : ℕ → Seeking
  spent : ℕ → Seeking

-- a node with an empty agenda is a success and ends it; else it goes on
abbrev pub at_node : List Task → ℕ → Seeking → Seeking
at_node [] n later = admitted n
at_node (t ∷ ts) n later = later

-- Nodes are visited and counted as in paper 01, 7.4. 30: "its budget is used up, no success was met, and one more node is due". "To visit
-- as many nodes as the budget, and have none left, is no 30."
unfoldable pub seek : Book → ℕ → List Node → ℕ → Seeking
seek b zero [] n = excluded n
seek b zero (x ∷ due) n = spent n
seek b (suc budget) [] n = excluded n
seek b (suc budget) (x ∷ due) n = at_node x.agenda (suc n) (seek b budget (children b x ++ due) (suc n))

abbrev pub sought : Book → ℕ → ℕ → Seeking
sought b h budget = seek b budget (root_with b h ∷ []) 0
