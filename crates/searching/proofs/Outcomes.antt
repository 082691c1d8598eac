-- How a search ends, by the tree without a budget: a finished run has visited exactly the tree; 30 comes exactly if the tree, as far as
-- it goes before a 31, has more nodes than the budget; 31 exactly at the first node at which the kept sets outnumber the room.
-- Assumes nothing.
use Prim.Native.Nat.{ℕ, zero, suc, ◌+◌, ◌≤◌, ◌<◌}
use Rattle.std.proofs.Common.{arith, sym, subst, ◌∙◌, inl, inr, ltb-true, ltb-false}
use Rattle.std.specs.Prelude.{◌≡◌, Bool, true, false, ◌↔◌, ◌⊎◌, ltb, length, take}
use Rattle.std.proofs.Math.Path.{refl, ap}
use mathlib.Core.List.{List, [], ◌∷◌, ◌++◌, append-nil, foldl, foldl-append}
use Rattle.std.proofs.Math.Seq.{take-length}
use Rattle.base.specs.paper.Bools.{choose}
use Rattle.base.specs.Bools.{decide}
use Rattle.base.specs.paper.Lists.{flat}
use Rattle.base.specs.Flat.{flat_append}
use Rattle.base.specs.paper.Least
use Rattle.image.specs.paper.Book.{Lit, Book}
use Rattle.sets.specs.paper.Kept.{insert, smallest}
use Rattle.searching.specs.paper.Rules.{Task, Node, children, noting, Outcome, finished, used_up, no_room, run, run_from}
use Rattle.searching.specs.paper.Tree.{visits, size}
use Rattle.searching.proofs.TreeLaws.{visits_law}
use Rattle.searching.proofs.Successes.{reached, sets}

-- the kept sets after some nodes have been visited
unfoldable pub keeps : Book → List ℕ → List Node → List ℕ
keeps b kept [] = kept
keeps b kept (x ∷ xs) = keeps b (noting b x.agenda x.sheet kept) xs

-- the kept sets after the first i nodes of the tree
abbrev pub kept_at : Book → Node → ℕ → List ℕ
kept_at b start i = keeps b [] (take i (visits b start))

-- there is room for the kept sets after each of the first i nodes
abbrev pub Fits : Book → ℕ → Node → ℕ → Type 0
Fits b room start i = (j : ℕ) → j ≤ i → length (kept_at b start j) ≤ room

-- What the tree says of a search's end.
pub data Says (b : Book) (room budget : ℕ) (start : Node) (o : Outcome) : Type 0 where
  -- the tree has no more nodes than the budget, and the kept sets fit throughout: all nodes are visited
  finishes : size b start ≤ budget → Fits b room start (size b start) → o ≡ finished (kept_at b start (size b start)) (size b start) → Says b room budget start o
  -- the tree has more nodes than the budget, and the kept sets fit as far as that goes
  runs_out : budget < size b start → Fits b room start budget → o ≡ used_up budget → Says b room budget start o
  -- at some node within the budget, and at none before, the kept sets outnumber the room
  fills_up : (i : ℕ) → i < size b start → i < budget → Fits b room start i → room < length (kept_at b start (suc i)) → o ≡ no_room (suc i) → Says b room budget start o

-- the same over any list of nodes, from any kept sets and any number of nodes visited
abbrev Roomy : Book → ℕ → List ℕ → List Node → ℕ → Type 0
Roomy b room kept xs i = (j : ℕ) → j ≤ i → length (keeps b kept (take j xs)) ≤ room

data Tells (b : Book) (room budget : ℕ) (xs : List Node) (kept : List ℕ) (n : ℕ) (o : Outcome) : Type 0 where
  through : length xs ≤ budget → Roomy b room kept xs (length xs) → o ≡ finished (keeps b kept (take (length xs) xs)) (n + length xs) → Tells b room budget xs kept n o
  short : budget < length xs → Roomy b room kept xs budget → o ≡ used_up (n + budget) → Tells b room budget xs kept n o
  tight : (i : ℕ) → i < length xs → i < budget → Roomy b room kept xs i → room < length (keeps b kept (take (suc i) xs)) → o ≡ no_room (n + suc i) → Tells b room budget xs kept n o

module _ (book : Book) (room : ℕ) where
  -- the run over a list of nodes that are all to be visited
  tour : ℕ → List Node → List ℕ → ℕ → Outcome
  tour zero [] kept n = finished kept n
  tour zero (x ∷ xs) kept n = used_up n
  tour (suc k) [] kept n = finished kept n
  tour (suc k) (x ∷ xs) kept n =
      choose (ltb room (length (noting book x.agenda x.sheet kept))) (no_room (suc n)) (tour k xs (noting book x.agenda x.sheet kept) (suc n))

  -- what is due: a node, what its children lead to, and the rest
  due_law : (x : Node) (due : List Node) → flat (visits book) (x ∷ due) ≡ x ∷ flat (visits book) (children book x ++ due)
  due_law x due =
      ap (λ (l : List Node). l ++ flat (visits book) due) (visits_law book x)
      ∙ ap (λ (l : List Node). x ∷ l) (sym (flat_append (visits book) (children book x) due))

  -- the run visits what is due in the trees' order
  run_tour : (k : ℕ) (due : List Node) (kept : List ℕ) (n : ℕ) → run book room k due kept n ≡ tour k (flat (visits book) due) kept n
  unfolding run tour
  run_tour zero [] kept n = refl
  run_tour zero (x ∷ due) kept n = ap (λ (l : List Node). tour zero l kept n) (sym (due_law x due))
  run_tour (suc k) [] kept n = refl
  run_tour (suc k) (x ∷ due) kept n =
      ap (λ (o : Outcome). choose (ltb room (length (noting book x.agenda x.sheet kept))) (no_room (suc n)) o)
      (run_tour k (children book x ++ due) (noting book x.agenda x.sheet kept) (suc n))
      ∙ ap (λ (l : List Node). tour (suc k) l kept n) (sym (due_law x due))

  roomy_none : (xs : List Node) (kept : List ℕ) → length kept ≤ room → Roomy book room kept xs 0
  unfolding keeps
  roomy_none xs kept h zero i = h
  roomy_none xs kept h (suc j) i = absurd (omega arith)

  roomy_more : (x : Node) (xs : List Node) (kept : List ℕ) (i : ℕ) → length kept ≤ room
      → Roomy book room (noting book x.agenda x.sheet kept) xs i → Roomy book room kept (x ∷ xs) (suc i)
  unfolding keeps
  roomy_more x xs kept i h f zero j = h
  roomy_more x xs kept i h f (suc k) j = f k (omega arith)

  tells : (k : ℕ) (xs : List Node) (kept : List ℕ) (n : ℕ) → length kept ≤ room → Tells book room k xs kept n (tour k xs kept n)
  unfolding tour keeps
  tells zero [] kept n h = through (omega arith) (roomy_none [] kept h) (ap (finished kept) (omega arith))
  tells zero (x ∷ xs) kept n h = short (omega arith) (roomy_none (x ∷ xs) kept h) (ap used_up (omega arith))
  tells (suc k) [] kept n h = through (omega arith) (roomy_none [] kept h) (ap (finished kept) (omega arith))
  tells (suc k) (x ∷ xs) kept n h = go (ltb room (length now)) refl (tells k xs now (suc n))
    where
      now : List ℕ
      now = noting book x.agenda x.sheet kept

      next : Outcome
      next = tour k xs now (suc n)

      step : length now ≤ room → Tells book room k xs now (suc n) next → Tells book room (suc k) (x ∷ xs) kept n next
      step g (through p f e) = through (omega arith) (roomy_more x xs kept (length xs) h f) (e ∙ ap (finished (keeps book now (take (length xs) xs))) (omega arith))
      step g (short p f e) = short (omega arith) (roomy_more x xs kept k h f) (e ∙ ap used_up (omega arith))
      step g (tight i p q f r e) = tight (suc i) (omega arith) (omega arith) (roomy_more x xs kept i h f) r (e ∙ ap no_room (omega arith))

      go : (t : Bool) → ltb room (length now) ≡ t → (length now ≤ room → Tells book room k xs now (suc n) next)
          → Tells book room (suc k) (x ∷ xs) kept n (choose t (no_room (suc n)) next)
      go true e ih = tight 0 (omega arith) (omega arith) (roomy_none (x ∷ xs) kept h) (ltb-true room (length now) e) (ap no_room (omega arith))
      go false e ih = step (ltb-false room (length now) e) (ih (ltb-false room (length now) e))

-- A search from any start ends as its tree says.
pub says : (b : Book) (room budget : ℕ) (start : Node) → Says b room budget start (run_from b room budget start)
says b room budget start = go (tells b room budget (visits b start) [] 0 (omega arith))
  where
    same : run_from b room budget start ≡ tour b room budget (visits b start) [] 0
    same = run_tour b room budget (start ∷ []) [] 0 ∙ ap (λ (l : List Node). tour b room budget l [] 0) (append-nil (visits b start))

    go : Tells b room budget (visits b start) [] 0 (tour b room budget (visits b start) [] 0) → Says b room budget start (run_from b room budget start)
    go (through p f e) = finishes p f (same ∙ e ∙ ap (finished (kept_at b start (size b start))) (omega arith))
    go (short p f e) = runs_out p f (same ∙ e ∙ ap used_up (omega arith))
    go (tight i p q f r e) = fills_up i p q f r (same ∙ e ∙ ap no_room (omega arith))

-- It says one end only.
pub says_unique : (b : Book) (room budget : ℕ) (start : Node) {o p : Outcome} → Says b room budget start o → Says b room budget start p → o ≡ p
says_unique b room budget start (finishes h f e) (finishes h' f' e') = e ∙ sym e'
says_unique b room budget start (finishes h f e) (runs_out h' f' e') = absurd (omega arith)
says_unique b room budget start (finishes h f e) (fills_up i h' g' f' r' e') = absurd (omega (arith, f (suc i) h'))
says_unique b room budget start (runs_out h f e) (finishes h' f' e') = absurd (omega arith)
says_unique b room budget start (runs_out h f e) (runs_out h' f' e') = e ∙ sym e'
says_unique b room budget start (runs_out h f e) (fills_up i h' g' f' r' e') = absurd (omega (arith, f (suc i) g'))
says_unique b room budget start (fills_up i h g f r e) (finishes h' f' e') = absurd (omega (arith, f' (suc i) h))
says_unique b room budget start (fills_up i h g f r e) (runs_out h' f' e') = absurd (omega (arith, f' (suc i) g))
says_unique b room budget start (fills_up i h g f r e) (fills_up j h' g' f' r' e') =
    e ∙ ap (λ (k : ℕ). no_room (suc k)) (meet (decide (ltb i j)) (decide (ltb j i))) ∙ sym e'
  where
    meet : (ltb i j ≡ true) ⊎ (ltb i j ≡ false) → (ltb j i ≡ true) ⊎ (ltb j i ≡ false) → i ≡ j
    meet (inl p) q = absurd (omega (arith, f' (suc i) (ltb-true i j p)))
    meet (inr p) (inl q) = absurd (omega (arith, f (suc j) (ltb-true j i q)))
    meet (inr p) (inr q) = omega (arith, ltb-false i j p, ltb-false j i q)

module _ (book : Book) (room budget : ℕ) (start : Node) where
  -- A run finishes exactly if the tree has no more nodes than the budget and the kept sets fit throughout. It has then visited exactly the
  -- tree: its node number is the tree's size, and its kept sets are those after the whole tree.
  pub finished_exactly : (kept : List ℕ) (n : ℕ) → (run_from book room budget start ≡ finished kept n)
      ↔ ((size book start ≤ budget) × Fits book room start (size book start) × (kept ≡ kept_at book start (size book start)) × (n ≡ size book start))
  finished_exactly kept n = (λ e. to e (says book room budget start), back)
    where
      Whole : Type 0
      Whole = (size book start ≤ budget) × Fits book room start (size book start) × (kept ≡ kept_at book start (size book start)) × (n ≡ size book start)

      to : run_from book room budget start ≡ finished kept n → Says book room budget start (run_from book room budget start) → Whole
      to e (finishes h f q) = (h, f, cc, cc)
      to e (runs_out h f q) = let z : ◌≡◌ {A = ℕ} 0 1 = cc in absurd (omega arith)
      to e (fills_up i h g f r q) = let z : ◌≡◌ {A = ℕ} 0 1 = cc in absurd (omega arith)

      back : Whole → run_from book room budget start ≡ finished kept n
      back w = says_unique book room budget start (says book room budget start) (finishes w.0 w.1 (cc (w.2, w.3)))

  -- 30 comes exactly if the tree has more nodes than the budget and the kept sets fit as far as the budget goes; its node number is the budget.
  pub used_up_exactly : (n : ℕ) → (run_from book room budget start ≡ used_up n) ↔ ((budget < size book start) × Fits book room start budget × (n ≡ budget))
  used_up_exactly n = (λ e. to e (says book room budget start), back)
    where
      to : run_from book room budget start ≡ used_up n → Says book room budget start (run_from book room budget start) → (budget < size book start) × Fits book room start budget × (n ≡ budget)
      to e (finishes h f q) = let z : ◌≡◌ {A = ℕ} 0 1 = cc in absurd (omega arith)
      to e (runs_out h f q) = (h, f, cc)
      to e (fills_up i h g f r q) = let z : ◌≡◌ {A = ℕ} 0 1 = cc in absurd (omega arith)

      back : (budget < size book start) × Fits book room start budget × (n ≡ budget) → run_from book room budget start ≡ used_up n
      back w = says_unique book room budget start (says book room budget start) (runs_out w.0 w.1 (ap used_up w.2))

  -- 31 comes exactly at the first node at which the kept sets outnumber the room, if it stands within the budget; its node number counts that node.
  pub no_room_exactly : (i : ℕ) → (run_from book room budget start ≡ no_room (suc i))
      ↔ ((i < size book start) × (i < budget) × Fits book room start i × (room < length (kept_at book start (suc i))))
  no_room_exactly i = (λ e. to e (says book room budget start), back)
    where
      to : run_from book room budget start ≡ no_room (suc i) → Says book room budget start (run_from book room budget start)
          → (i < size book start) × (i < budget) × Fits book room start i × (room < length (kept_at book start (suc i)))
      to e (finishes h f q) = let z : ◌≡◌ {A = ℕ} 0 1 = cc in absurd (omega arith)
      to e (runs_out h f q) = let z : ◌≡◌ {A = ℕ} 0 1 = cc in absurd (omega arith)
      to e (fills_up j h g f r q) =
          let s : suc j ≡ suc i = cc in
          let z : j ≡ i = omega arith in
          subst (λ (k : ℕ). (k < size book start) × (k < budget) × Fits book room start k × (room < length (kept_at book start (suc k)))) z (h, g, f, r)

      back : (i < size book start) × (i < budget) × Fits book room start i × (room < length (kept_at book start (suc i))) → run_from book room budget start ≡ no_room (suc i)
      back w = says_unique book room budget start (says book room budget start) (fills_up i w.0 w.1 w.2 w.3 refl)

  -- No larger budget and no larger room changes a finished search, neither list nor node number (paper 02, A11.2).
  pub finished_larger : (room' budget' : ℕ) → room ≤ room' → budget ≤ budget' → (kept : List ℕ) (n : ℕ)
      → run_from book room budget start ≡ finished kept n → run_from book room' budget' start ≡ finished kept n
  finished_larger room' budget' p q kept n e =
      let w = (finished_exactly kept n).0 e in
      says_unique book room' budget' start (says book room' budget' start) (finishes (omega (arith, w.0)) (λ j h. omega (arith, w.1 j h)) (cc (w.2, w.3)))

-- what is kept after some nodes are the smallest of their sets, put to the kept sets one after the other
pub keeps_sets : (b : Book) (kept : List ℕ) (xs : List Node)
    → keeps b kept xs ≡ foldl insert kept (flat (λ (x : Node). reached b x.agenda x.sheet) xs)
unfolding keeps noting reached
keeps_sets b kept [] = refl
keeps_sets b kept (x ∷ xs) =
    keeps_sets b (noting b x.agenda x.sheet kept) xs
    ∙ ap (λ (k : List ℕ). foldl insert k (flat (λ (y : Node). reached b y.agenda y.sheet) xs)) (noted x.agenda x.sheet)
    ∙ sym (foldl-append insert kept (reached b x.agenda x.sheet) (flat (λ (y : Node). reached b y.agenda y.sheet) xs))
  where
    noted : (ts : List Task) (s : List Lit) → noting b ts s kept ≡ foldl insert kept (reached b ts s)
    noted [] s = refl
    noted (t ∷ ts) s = refl

-- A finished run keeps the smallest of the tree's sets.
pub kept_smallest : (b : Book) (start : Node) → kept_at b start (size b start) ≡ smallest (sets b start)
unfolding Least.smallest
kept_smallest b start = ap (keeps b []) (take-length (visits b start)) ∙ keeps_sets b [] (visits b start)
