-- The second search (paper 02, A3): it is the rules' own search with a list of no entries; how it ends, by the tree without a budget; and
-- that some explaining set has the hypothesis where it is admitted, and none where it is excluded.
-- Assumes nothing.
use Prim.Native.Nat.{ℕ, zero, suc, ◌≤◌, ◌<◌}
use Rattle.std.proofs.Common.{arith, sym, subst, ◌∙◌, lt-ltb}
use Rattle.std.specs.Prelude.{◌≡◌, true, ◌↔◌, ltb, get_or, take}
use Rattle.std.proofs.Math.Path.{refl, ap}
use mathlib.Core.List.{List, [], ◌∷◌, ◌++◌}
use Rattle.std.proofs.Math.ListN.{length}
use Rattle.std.proofs.Math.Seq.{take-length}
use Rattle.base.specs.paper.Bools.{choose}
use Rattle.base.specs.Bools.{both}
use Rattle.base.specs.paper.Lists.{◌∈◌, Every}
use Rattle.base.specs.Lists.{here, there, every_none, every_more, every_first, every_rest}
use Rattle.base.specs.paper.Members.{has}
use Rattle.base.specs.paper.Least
use Rattle.image.specs.paper.Book.{Lit, Book}
use Rattle.image.specs.Sound.{Orderly}
use Rattle.meaning.specs.paper.Meaning.{abducible, value, explains, Members}
use Rattle.searching.specs.paper.Rules.{Task, Node, on, children, assumed, noting, Outcome, finished, used_up, no_room, run, run_from}
use Rattle.searching.specs.paper.Seek.{root_with, Seeking, admitted, excluded, spent, at_node, seek, sought}
use Rattle.searching.specs.paper.Tree.{visits, size}
use Rattle.searching.proofs.Results.{∈_on}
use Rattle.searching.proofs.Known.{True}
use Rattle.searching.proofs.Sheets.{side, has_assumed, given}
use Rattle.searching.proofs.Successes.{Success, Start, success_done, Agrees, agrees_success, sets, from_set, sets_explain, root_agrees, sets_abducible}
use Rattle.searching.proofs.Outcomes.{keeps, kept_at, Fits, Says, finishes, runs_out, fills_up, says, finished_exactly, used_up_exactly, no_room_exactly}

-- What an end of the rules' search tells of the hypothesis, where the list has no entries: 31 comes at the first success.
abbrev pub told : Outcome → Seeking
told (finished kept n) = excluded n
told (used_up n) = spent n
told (no_room n) = admitted n

-- The second search is the rules' search with a list of no entries.
pub seek_run : (b : Book) (budget : ℕ) (due : List Node) (n : ℕ) → seek b budget due n ≡ told (run b 0 budget due [] n)
unfolding seek run noting Least.insert
seek_run b zero [] n = refl
seek_run b zero (x ∷ due) n = refl
seek_run b (suc budget) [] n = refl
seek_run b (suc budget) (x ∷ due) n = go x.agenda x.sheet (seek_run b budget (children b x ++ due) (suc n))
  where
    next : List ℕ → Outcome
    next now = run b 0 budget (children b x ++ due) now (suc n)

    go : (ts : List Task) (s : List Lit) → seek b budget (children b x ++ due) (suc n) ≡ told (next [])
        → at_node ts (suc n) (seek b budget (children b x ++ due) (suc n))
        ≡ told (choose (ltb 0 (length (noting b ts s []))) (no_room (suc n)) (next (noting b ts s [])))
    go [] s ih = refl
    go (t ∷ ts) s ih = ih

pub sought_run : (b : Book) (h budget : ℕ) → sought b h budget ≡ told (run_from b 0 budget (root_with b h))
sought_run b h budget = seek_run b budget (root_with b h ∷ []) 0

-- each of them is told of one end only
told_admitted : (o : Outcome) (n : ℕ) → told o ≡ admitted n → o ≡ no_room n
told_admitted (finished kept k) n e = let z : ◌≡◌ {A = ℕ} 0 1 = cc in absurd (omega arith)
told_admitted (used_up k) n e = let z : ◌≡◌ {A = ℕ} 0 1 = cc in absurd (omega arith)
told_admitted (no_room k) n e = cc

told_excluded : (o : Outcome) (n : ℕ) → told o ≡ excluded n → (kept : List ℕ) × (o ≡ finished kept n)
told_excluded (finished kept k) n e = (kept, cc)
told_excluded (used_up k) n e = let z : ◌≡◌ {A = ℕ} 0 1 = cc in absurd (omega arith)
told_excluded (no_room k) n e = let z : ◌≡◌ {A = ℕ} 0 1 = cc in absurd (omega arith)

told_spent : (o : Outcome) (n : ℕ) → told o ≡ spent n → o ≡ used_up n
told_spent (finished kept k) n e = let z : ◌≡◌ {A = ℕ} 0 1 = cc in absurd (omega arith)
told_spent (used_up k) n e = cc
told_spent (no_room k) n e = let z : ◌≡◌ {A = ℕ} 0 1 = cc in absurd (omega arith)

abbrev pub NoSuccess : Node → Type 0
NoSuccess x = Success x → ⊥

-- node i of the tree in visiting order, the start being node 0
abbrev pub node_at : Book → Node → ℕ → Node
node_at b start i = get_or (visits b start) i start

-- none of the nodes before node i is a success: none of the first i
abbrev pub NoneBefore : Book → Node → ℕ → Type 0
NoneBefore b start i = Every NoSuccess (take i (visits b start))

module _ (book : Book) where
  -- what is kept after a node, where nothing was before
  abbrev kept_first : Node → List ℕ
  kept_first x = noting book x.agenda x.sheet []

  kept_nothing : (x : Node) → NoSuccess x → kept_first x ≡ []
  unfolding noting
  kept_nothing x f = go x.agenda x.sheet f
    where
      go : (ts : List Task) (s : List Lit) → (ts ≡ [] → ⊥) → noting book ts s [] ≡ []
      go [] s g = absurd (g refl)
      go (t ∷ ts) s g = refl

  kept_one : (x : Node) → Success x → length (kept_first x) ≡ 1
  unfolding noting Least.insert
  kept_one x e = ap (λ (ts : List Task). length (noting book ts x.sheet [])) e

  kept_success : (x : Node) → 0 < length (kept_first x) → Success x
  unfolding noting
  kept_success x p = go x.agenda x.sheet p
    where
      go : (ts : List Task) (s : List Lit) → 0 < length (noting book ts s []) → ts ≡ []
      go [] s q = refl
      go (t ∷ ts) s q = absurd (omega arith)

  none_keeps : (i j : ℕ) (xs : List Node) → j ≤ i → Every NoSuccess (take i xs) → keeps book [] (take j xs) ≡ []
  unfolding keeps
  none_keeps i zero xs p f = refl
  none_keeps zero (suc j) xs p f = absurd (omega arith)
  none_keeps (suc i) (suc j) [] p f = refl
  none_keeps (suc i) (suc j) (x ∷ xs) p f =
      ap (λ (k : List ℕ). keeps book k (take j xs)) (kept_nothing x (every_first f)) ∙ none_keeps i j xs (omega arith) (every_rest f)

  keeps_none : (i : ℕ) (xs : List Node) → ((j : ℕ) → j ≤ i → length (keeps book [] (take j xs)) ≤ 0) → Every NoSuccess (take i xs)
  unfolding keeps
  keeps_none zero xs f = every_none NoSuccess
  keeps_none (suc i) [] f = every_none NoSuccess
  keeps_none (suc i) (x ∷ xs) f = every_more none (keeps_none i xs later)
    where
      none : NoSuccess x
      none e = omega (arith, kept_one x e, f 1 (omega arith))

      later : (j : ℕ) → j ≤ i → length (keeps book [] (take j xs)) ≤ 0
      later j p = subst (λ (k : List ℕ). length (keeps book k (take j xs)) ≤ 0) (kept_nothing x none) (f (suc j) (omega arith))

  -- The kept sets fit a list of no entries exactly as long as there is no success.
  none_fits : (start : Node) (i : ℕ) → NoneBefore book start i ↔ Fits book 0 start i
  none_fits start i = (λ f j p. omega (arith, ap length (none_keeps i j (visits book start) p f)), keeps_none i (visits book start))

  keeps_next : (i : ℕ) (xs : List Node) (d : Node) → i < length xs → Every NoSuccess (take i xs) → keeps book [] (take (suc i) xs) ≡ kept_first (get_or xs i d)
  unfolding keeps
  keeps_next i [] d p f = absurd (omega arith)
  keeps_next zero (x ∷ xs) d p f = refl
  keeps_next (suc i) (x ∷ xs) d p f =
      ap (λ (k : List ℕ). keeps book k (take (suc i) xs)) (kept_nothing x (every_first f)) ∙ keeps_next i xs d (omega arith) (every_rest f)

  -- They outnumber its entries exactly after the first one.
  first_kept : (start : Node) (i : ℕ) → i < size book start → NoneBefore book start i
      → (0 < length (kept_at book start (suc i))) ↔ Success (node_at book start i)
  first_kept start i p f = (λ q. kept_success (node_at book start i) (omega (arith, same)), λ e. omega (arith, same, kept_one (node_at book start i) e))
    where
      same : length (kept_at book start (suc i)) ≡ length (kept_first (node_at book start i))
      same = ap length (keeps_next i (visits book start) start p f)

module _ (book : Book) (h budget : ℕ) where
  -- Admitted exactly if a node within the budget is a success; the node number counts the first one.
  pub admitted_exactly : (i : ℕ) → (sought book h budget ≡ admitted (suc i))
      ↔ ((i < budget) × (i < size book (root_with book h)) × Success (node_at book (root_with book h) i) × NoneBefore book (root_with book h) i)
  admitted_exactly i = (to, back)
    where
      First : Type 0
      First = (i < budget) × (i < size book (root_with book h)) × Success (node_at book (root_with book h) i) × NoneBefore book (root_with book h) i

      to : sought book h budget ≡ admitted (suc i) → First
      to e =
          let o = told_admitted (run_from book 0 budget (root_with book h)) (suc i) (sym (sought_run book h budget) ∙ e) in
          let w = (no_room_exactly book 0 budget (root_with book h) i).0 o in
          let f = (none_fits book (root_with book h) i).1 w.2 in
          (w.1, w.0, (first_kept book (root_with book h) i w.0 f).0 w.3, f)

      back : First → sought book h budget ≡ admitted (suc i)
      back w =
          sought_run book h budget
          ∙ ap told ((no_room_exactly book 0 budget (root_with book h) i).1
          (w.1, w.0, (none_fits book (root_with book h) i).0 w.3, (first_kept book (root_with book h) i w.1 w.3).1 w.2))

  -- Spent exactly if the tree has more nodes than the budget and no success as far as the budget goes; the node number is the budget.
  pub spent_exactly : (n : ℕ) → (sought book h budget ≡ spent n)
      ↔ ((n ≡ budget) × (budget < size book (root_with book h)) × NoneBefore book (root_with book h) budget)
  spent_exactly n = (to, back)
    where
      to : sought book h budget ≡ spent n → (n ≡ budget) × (budget < size book (root_with book h)) × NoneBefore book (root_with book h) budget
      to e =
          let o = told_spent (run_from book 0 budget (root_with book h)) n (sym (sought_run book h budget) ∙ e) in
          let w = (used_up_exactly book 0 budget (root_with book h) n).0 o in
          (w.2, w.0, (none_fits book (root_with book h) budget).1 w.1)

      back : (n ≡ budget) × (budget < size book (root_with book h)) × NoneBefore book (root_with book h) budget → sought book h budget ≡ spent n
      back w =
          sought_run book h budget
          ∙ ap told ((used_up_exactly book 0 budget (root_with book h) n).1 (w.1, (none_fits book (root_with book h) budget).0 w.2, w.0))

  -- Excluded exactly if the tree has no more nodes than the budget and no success; the node number is its size.
  pub excluded_exactly : (n : ℕ) → (sought book h budget ≡ excluded n)
      ↔ ((n ≡ size book (root_with book h)) × (size book (root_with book h) ≤ budget) × Every NoSuccess (visits book (root_with book h)))
  excluded_exactly n = (to, back)
    where
      Whole : Type 0
      Whole = (n ≡ size book (root_with book h)) × (size book (root_with book h) ≤ budget) × Every NoSuccess (visits book (root_with book h))

      all : take (size book (root_with book h)) (visits book (root_with book h)) ≡ visits book (root_with book h)
      all = take-length (visits book (root_with book h))

      to : sought book h budget ≡ excluded n → Whole
      to e =
          let o = told_excluded (run_from book 0 budget (root_with book h)) n (sym (sought_run book h budget) ∙ e) in
          let w = (finished_exactly book 0 budget (root_with book h) o.0 n).0 o.1 in
          (w.3, w.0, subst (Every NoSuccess) all ((none_fits book (root_with book h) (size book (root_with book h))).1 w.1))

      back : Whole → sought book h budget ≡ excluded n
      back w =
          let f = (none_fits book (root_with book h) (size book (root_with book h))).0 (subst (Every NoSuccess) (sym all) w.2) in
          sought_run book h budget
          ∙ ap told ((finished_exactly book 0 budget (root_with book h) (kept_at book (root_with book h) (size book (root_with book h))) n).1 (w.1, f, refl, w.0))

  -- the node of the success counts, so that one node at least was visited
  admitted_counts : (n : ℕ) → sought book h budget ≡ admitted n → (i : ℕ) × (n ≡ suc i)
  admitted_counts n e =
      go (told_admitted (run_from book 0 budget (root_with book h)) n (sym (sought_run book h budget) ∙ e)) (says book 0 budget (root_with book h))
    where
      go : run_from book 0 budget (root_with book h) ≡ no_room n → Says book 0 budget (root_with book h) (run_from book 0 budget (root_with book h))
          → (i : ℕ) × (n ≡ suc i)
      go o (finishes p f q) = let z : ◌≡◌ {A = ℕ} 0 1 = cc in absurd (omega arith)
      go o (runs_out p f q) = let z : ◌≡◌ {A = ℕ} 0 1 = cc in absurd (omega arith)
      go o (fills_up i p g f r q) = (i, cc)

  first_success : (n : ℕ) → sought book h budget ≡ admitted n
      → (i : ℕ) × (n ≡ suc i) × (i < budget) × (i < size book (root_with book h)) × Success (node_at book (root_with book h) i)
  first_success n e =
      let c = admitted_counts n e in
      let w = (admitted_exactly c.0).0 (e ∙ ap admitted c.1) in
      (c.0, c.1, w.0, w.1, w.2)

  -- The node numbers lie within the budget.
  pub sought_within : (n : ℕ)
      → (sought book h budget ≡ admitted n → (1 ≤ n) × (n ≤ budget))
      × (sought book h budget ≡ excluded n → (n ≤ budget) × (n ≡ size book (root_with book h)))
      × (sought book h budget ≡ spent n → n ≡ budget)
  sought_within n = (
    λ e. let w = first_success n e in (omega (arith, w.1), omega (arith, w.1, w.2)),
    λ e. let w = (excluded_exactly n).0 e in (omega (arith, w.0, w.1), w.0),
    λ e. ((spent_exactly n).0 e).0,
  )

-- where the second search starts
pub with_starts : (b : Book) (h : ℕ) → Start b (root_with b h)
with_starts b h = record { bare = refl; asks = λ t m. there m }

at_∈ : (xs : List Node) (i : ℕ) (d : Node) → i < length xs → get_or xs i d ∈ xs
at_∈ [] i d p = absurd (omega arith)
at_∈ (x ∷ xs) zero d p = here
at_∈ (x ∷ xs) (suc i) d p = there (at_∈ xs i d (omega arith))

module _ (book : Book) (orderly : Orderly book) (h : ℕ) (assumable : h < book.abducibles) where
  -- Each success has assumed the hypothesis, for it was wanted.
  success_has : (x : Node) → x ∈ visits book (root_with book h) → Success x → has (assumed book x.sheet) h ≡ true
  success_has x m e =
      has_assumed book x.sheet h
      ∙ both (abducible book h) (on x.sheet (side h true)) (lt-ltb h book.abducibles assumable)
      (∈_on x.sheet (side h true) (every_first (success_done book (root_with book h) x m e)))

  -- Under an explaining set that has the hypothesis, the start's tasks can be done.
  with_agrees : (d : ℕ) → explains book d ≡ true → has d h ≡ true → Agrees book orderly d (root_with book h)
  with_agrees d e p = record {
    able = every_more (given book orderly d h (lt-ltb h book.abducibles assumable) ∙ p) (root_agrees book orderly d e).able;
    right = every_none (True (value book d));
  }

  -- Where the second search is admitted, some explaining set has the hypothesis;
  pub admitted_some : (budget n : ℕ) → sought book h budget ≡ admitted n → (d : ℕ) × (explains book d ≡ true) × (has d h ≡ true) × Members book d
  admitted_some budget n e =
      let w = first_success book h budget n e in
      let x = node_at book (root_with book h) w.0 in
      let m : x ∈ visits book (root_with book h) = at_∈ (visits book (root_with book h)) w.0 (root_with book h) w.3 in
      let s : assumed book x.sheet ∈ sets book (root_with book h) = from_set book (root_with book h) x m w.4 in (
        assumed book x.sheet,
        sets_explain book orderly (root_with book h) (with_starts book h) (assumed book x.sheet) s,
        success_has x m w.4,
        sets_abducible book (root_with book h) (assumed book x.sheet) s,
      )

  -- where it is excluded, no explaining set has it, of whatever size.
  pub excluded_none : (budget n : ℕ) → sought book h budget ≡ excluded n → (d : ℕ) → explains book d ≡ true → has d h ≡ true → ⊥
  excluded_none budget n e d q p =
      let w = agrees_success book orderly d (root_with book h) (with_agrees d q p) in
      ((excluded_exactly book h budget n).0 e).2 w.0 w.1 w.2.0
