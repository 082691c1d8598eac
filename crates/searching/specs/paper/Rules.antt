-- Paper 01, 7, in its order. Words in quotation marks are that section's.
-- Assumes nothing.
use Rattle.std.specs.Prelude.{ℕ, zero, suc, ◌+◌, ◌*◌, Bool, true, false, not, ◌&&◌, List, [], ◌∷◌, ◌++◌, map, eqb, ltb, length}
use Rattle.std.specs.Bool.{beq}
use Rattle.base.specs.paper.Bools.{choose}
use Rattle.base.specs.paper.Lists.{any}
use Rattle.image.specs.paper.Book.{Lit, Clause, Constraint, Book}
use Rattle.sets.specs.paper.Kept.{insert, sort}
use Rattle.meaning.specs.paper.Meaning.{abducible, clauses_for}

-- the other literal of the same atom
abbrev pub opposite : Lit → Lit
opposite l = record { atom = l.atom; sign = not l.sign }

-- A task wants a literal, where "a negated literal is wanted by wanting its atom false", or picks one of several lists of literals,
-- to want each literal of it.
pub data Task : Type 0 where
  want : Lit → Task
  pick : List (List Lit) → Task

-- for each literal in order, its opposite alone
abbrev pub opposites : List Lit → List (List Lit)
opposites ls = map (λ (l : Lit). opposite l ∷ []) ls

-- "Clause c is to be broken. One child for each literal of c's body, in order, which wants the literal's opposite."
abbrev pub break : Clause → Task
break c = pick (opposites c.body)

-- "A constraint is to be kept. One child for each of its conditions, in order, which wants the opposite; then one for each alternative,
-- in order, which wants all its literals, in order."
abbrev pub keep : Constraint → Task
keep k = pick (opposites k.conditions ++ k.alternatives)

-- "A node holds an agenda, which is a list of tasks, and two sets of atoms: T, those wanted true so far, and F, those wanted false." One
-- sheet holds both sets, the newest first: an atom of T stands there as itself, an atom of F as its negation.
pub record Node : Type 0 where
  pub agenda : List Task
  pub sheet : List Lit

-- "The root has nothing in T and F; on its agenda stand the wants of the goal's literals and behind them the constraints, both in the
-- book's order."
abbrev pub root : Book → Node
root b = record { agenda = map want b.goal ++ map keep b.constraints; sheet = [] }

-- the literal stands on the sheet
unfoldable pub on : List Lit → Lit → Bool
on s l = any (λ (m : Lit). eqb l.atom m.atom && beq l.sign m.sign) s

-- "p defined: one child for each clause of p, in order; p is put into T and the clause's body literals are wanted, in order."
-- "p defined: one child; p is put into F, and each clause of p, in order, is to be broken."
abbrev pub unfolds : Bool → List Clause → List (List Task)
unfolds true cs = map (λ (c : Clause). map want c.body) cs
unfolds false cs = map break cs ∷ []

-- "p abducible: one child, with p put into T"; "with p put into F".
abbrev pub opens : Book → Lit → List (List Task)
opens b l = choose (abducible b l.atom) ([] ∷ []) (unfolds l.sign (clauses_for b l.atom))

-- "The task at the front is done, and what it asks for comes before the tasks behind it." The results of a task, one for each child in
-- order: "p in F: no child. p in T already: one child, without the task." "p in T: no child. p in F already: one child, without the
-- task."
unfoldable pub results : Book → List Lit → Task → List Node
results b s (want l) =
    choose (on s (opposite l)) []
    (choose (on s l) (record { agenda = []; sheet = s } ∷ [])
    (map (λ (ts : List Task). record { agenda = ts; sheet = l ∷ s }) (opens b l)))
results b s (pick ways) = map (λ (way : List Lit). record { agenda = map want way; sheet = s }) ways

-- "A node with an empty agenda is a success and has no child."
unfoldable pub after : Book → List Task → List Lit → List Node
after b [] s = []
after b (t ∷ rest) s = map (λ (n : Node). record { agenda = n.agenda ++ rest; sheet = n.sheet }) (results b s t)

abbrev pub children : Book → Node → List Node
children b n = after b n.agenda n.sheet

-- the set of the numbers below n for which t holds
unfoldable pub gather : ℕ → (ℕ → Bool) → ℕ
gather zero t = 0
gather (suc n) t = 2 * gather n (λ (j : ℕ). t (suc j)) + choose (t 0) 1 0

-- "The set of a success is s, the abducibles that stand in T."
abbrev pub assumed : Book → List Lit → ℕ
assumed b s = gather b.abducibles (λ (j : ℕ). on s (record { atom = j; sign = true }))

-- "Where some kept set lies inside s, or is s, all stays as it is." "Else each kept set that s lies inside goes, and s is kept."
unfoldable pub noting : Book → List Task → List Lit → List ℕ → List ℕ
noting b [] s kept = insert kept (assumed b s)
noting b (t ∷ rest) s kept = kept

-- How a search ends: finished, with the kept sets; with 30, the budget being used up; or with 31, the list having no room. Last comes the
-- node number, "how many nodes were visited, with the one at which a 31 was met".
pub data Outcome : Type 0 where
  finished : List ℕ → ℕ → Outcome
  used_up : ℕ → Outcome
  no_room : ℕ → Outcome

-- "A node's children are visited from the first to the last, and all that lies below one comes before the next one. Each visited node
-- adds one to the node number." "31 exactly if, with s kept, there are more kept sets than the list has entries." "30 exactly if a node
-- is still to be visited after as many as the budget allows." Here `budget` is what is left of it, and `n` the number of nodes visited.
-- The room is looked at after every node: the kept sets change at a success only.
unfoldable pub run : Book → ℕ → ℕ → List Node → List ℕ → ℕ → Outcome
run b room zero [] kept n = finished kept n
run b room zero (x ∷ due) kept n = used_up n
run b room (suc budget) [] kept n = finished kept n
run b room (suc budget) (x ∷ due) kept n =
    let now = noting b x.agenda x.sheet kept in
    let later = run b room budget (children b x ++ due) now (suc n) in
    choose (ltb room (length now)) (no_room (suc n)) later

-- the search from a node on
abbrev pub run_from : Book → ℕ → ℕ → Node → Outcome
run_from b room budget start = run b room budget (start ∷ []) [] 0

-- "The list is sent out by size and then by value."
abbrev pub sent : Outcome → Outcome
sent (finished kept n) = finished (sort kept) n
sent (used_up n) = used_up n
sent (no_room n) = no_room n

abbrev pub search_end : Book → ℕ → ℕ → Outcome
search_end b room budget = sent (run_from b room budget (root b))
