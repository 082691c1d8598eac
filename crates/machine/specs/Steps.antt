-- The search as a whole: each step keeps the one equation, that the rules' search gives from here what it is to give; and the last step's
-- outcome is the rules'.
-- Assumes nothing.
use Rattle.std.specs.Prelude.{ℕ, zero, suc, ◌+◌, ◌-◌, ◌≤◌, ◌<◌, ◌≡◌, refl, List, [], ◌∷◌, ◌++◌, length, take, drop}
use Rattle.std.proofs.Common.{arith, sym, ap, ap₂, subst, subst₂, ◌∙◌, length-take, lt-ltb, le-ltb}
use Rattle.base.specs.Bools.{choose_true, choose_false}
use Rattle.image.specs.paper.Book.{Lit, Book}
use Rattle.sets.specs.paper.Kept.{insert}
use Rattle.image.specs.paper.Decode.{lit_of}
use Rattle.searching.specs.paper.Rules.{Task, want, pick, Node, children, after, assumed, Outcome, finished, no_room}
use Rattle.searching.specs.paper.Rules
use Rattle.area.specs.Area as layout
use Rattle.memory.specs.declared.run.Run.{Run}
use Rattle.memory.specs.declared.run.State.{State}
use Rattle.memory.specs.States.{rank, rank_tells, TASK, AGENDA, LIST, WAY, FAILED, OVER, SPENT, Passing}
use Rattle.memory.specs.Machine.{node_of, literal, record_at, last, Holds, HandIn, in_hand}
use Rattle.memory.specs.Pieces.{in_state, counting}
use Rattle.visit.specs.Node.{counting_holds}
use Rattle.memory.specs.Agreed.{Standing, Moved, StandingIn, Moves, Backed, back_to, over, Visited, Tasked, Success, SuccessKept, inserted, full, Went, visits}
use Rattle.machine.specs.Agreed.{Onward, Placed, Searching, Ending, all_visited, out_of_budget, out_of_room, Course, goes_on, ended, Somewhere, Passes, Stepped, ahead, Tells}
use Rattle.machine.specs.declared.Ended.TheVariants.{Finished, UsedUp, NoRoom}

-- ---- the rules' search, one node at a time

run_none : (b : Book) (room k : ℕ) (kept : List ℕ) (n : ℕ) → Rules.run b room k [] kept n ≡ finished kept n
unfolding Rules.run
run_none b room zero kept n = refl
run_none b room (suc k) kept n = refl

run_short : (b : Book) (room : ℕ) (x : Node) (later : List Node) (kept : List ℕ) (n : ℕ) → Rules.run b room 0 (x ∷ later) kept n ≡ Rules.used_up n
unfolding Rules.run
run_short b room x later kept n = refl

-- a node with a task
run_task : (b : Book) (room k : ℕ) (t : Task) (ts : List Task) (sheet : List Lit) (later : List Node) (kept : List ℕ) (n : ℕ) → length kept ≤ room
    → Rules.run b room (suc k) (node_of (t ∷ ts) sheet ∷ later) kept n ≡ Rules.run b room k (children b (node_of (t ∷ ts) sheet) ++ later) kept (suc n)
unfolding Rules.run Rules.noting
run_task b room k t ts sheet later kept n h = choose_false _ _ (le-ltb room (length kept) h)

-- a success
run_room : (b : Book) (room k : ℕ) (sheet : List Lit) (later : List Node) (kept : List ℕ) (n : ℕ) → length (insert kept (assumed b sheet)) ≤ room
    → Rules.run b room (suc k) (node_of [] sheet ∷ later) kept n ≡ Rules.run b room k later (insert kept (assumed b sheet)) (suc n)
unfolding Rules.run Rules.noting after
run_room b room k sheet later kept n h = choose_false _ _ (le-ltb room (length (insert kept (assumed b sheet))) h)

run_full : (b : Book) (room k : ℕ) (sheet : List Lit) (later : List Node) (kept : List ℕ) (n : ℕ) → room < length (insert kept (assumed b sheet))
    → Rules.run b room (suc k) (node_of [] sheet ∷ later) kept n ≡ no_room (suc n)
unfolding Rules.run Rules.noting after
run_full b room k sheet later kept n h = choose_true _ _ (lt-ltb room (length (insert kept (assumed b sheet))) h)

-- ---- from a state to the next

-- a machine at work is not over
working : {image : List ℕ} {b : Book} {work : List ℕ} {run : Run} {all : List Node} → Holds image b work run all → run.state ≡ OVER → ⊥
working {run = run} {all} h e = go (in_hand h e)
  where
    go : HandIn h OVER run.task run.agenda all → ⊥
    go = elim [ ]

not_ended : {outcome : Outcome} (sets : List ℕ) (run : Run) (n : State) → Ending outcome sets run → run.state ≡ n → Passing n → ⊥
not_ended sets run n (all_visited e c a) i p = omega (arith, ap rank (sym e ∙ i))
not_ended sets run n (out_of_budget e a) i p = omega (arith, ap rank (sym e ∙ i))
not_ended sets run n (out_of_room e a) i p = omega (arith, ap rank (sym e ∙ i))

-- a move keeps the equation
moved_on : {outcome : Outcome} (image : List ℕ) (budget : ℕ) (sets work : List ℕ) (run : Run) (work' : List ℕ) (run' : Run) (n : State)
    → Moved image work run work' run' n
    → Searching image budget outcome sets work run → Searching image budget outcome sets work' run'
moved_on image budget sets work run work' run' n m h = record {
  b = h.b;
  all = h.all;
  holds = m.holds h.b h.all h.holds;
  nodes = omega (arith, m.nodes, h.nodes);
  count = omega (arith, m.count, h.count);
  entries = h.entries;
  answer =
      h.answer
      ∙ ap₂ (λ (n c : ℕ). Rules.run h.b (length sets) (budget - n) h.all (take c sets) n) (sym m.nodes) (sym m.count);
}

-- the state that a piece asks for
pub somewhere_stands : (work : List ℕ) (run : Run) (n : State) → Passing n → Somewhere work run n → run.state ≡ n → StandingIn work run n
somewhere_stands work run n h p e = go p.state
  where
    go : Course p.image p.budget p.outcome p.sets work run n p.low → StandingIn work run n
    go (goes_on x i k) = (p.image, record { b = x.b; all = x.all; holds = x.holds; state = e })
    go (ended x k) = absurd (not_ended p.sets run n x e h)

pub passes_moved : (work : List ℕ) (run : Run) (m : State) (work' : List ℕ) (run' : Run) (n : State) → Passing m → run.state ≡ m → Moves work run work' run' n → Passes work run m work' run' n
passes_moved work run m work' run' n h e f = record {
  next = λ image budget outcome sets low x. go image budget sets low x;
  later = (f []).later;
}
  where
    go : {outcome : Outcome} (image : List ℕ) (budget : ℕ) (sets : List ℕ) (low : ℕ) → Course image budget outcome sets work run m low
        → Course image budget outcome sets work' run' n low
    go image budget sets low (goes_on x i k) = goes_on (moved_on image budget sets work run work' run' n (f image) x) (f image).state (omega (arith, (f image).nodes))
    go image budget sets low (ended x k) = absurd (not_ended sets run m x e h)

pub passes_same : (work : List ℕ) (run : Run) (m n : State) → rank m ≡ suc (rank n) → (run.state ≡ m → ⊥) → Passes work run m work run n
passes_same work run m n j e = record { next = λ image budget outcome sets low x. go image budget sets low x; later = refl }
  where
    go : {outcome : Outcome} (image : List ℕ) (budget : ℕ) (sets : List ℕ) (low : ℕ) → Course image budget outcome sets work run m low
        → Course image budget outcome sets work run n low
    go image budget sets low (goes_on x i k) = let other : rank run.state ≡ rank m → ⊥ = λ z. e (rank_tells run.state m z) in goes_on x (omega (arith, other)) k
    go image budget sets low (ended x k) = ended x k

-- a way more for `back`: nothing is left
pub passes_backed : (work : List ℕ) (run : Run) (work' : List ℕ) (run' : Run) → run.state ≡ FAILED → Backed work run work' run' → Passes work run FAILED work' run' WAY
passes_backed work run work' run' e (back_to f) = record {
  next = λ image budget outcome sets low x. go image budget sets low x;
  later = (f []).later;
}
  where
    go : {outcome : Outcome} (image : List ℕ) (budget : ℕ) (sets : List ℕ) (low : ℕ) → Course image budget outcome sets work run FAILED low
        → Course image budget outcome sets work' run' WAY low
    go image budget sets low (goes_on x i k) = goes_on (moved_on image budget sets work run work' run' LIST (f image) x) (omega (arith, (f image).state)) (omega (arith, (f image).nodes))
    go image budget sets low (ended x k) = absurd (not_ended sets run FAILED x e (omega arith, omega arith))
passes_backed work run work' run' e (over f j p) =
    subst (λ (l : List ℕ). Passes work run FAILED l run' WAY) (sym j)
    (subst (λ (o : Run). Passes work run FAILED work o WAY) (sym p) (record { next = λ image budget outcome sets low x. go image budget sets low x; later = refl }))
  where
    go : {outcome : Outcome} (image : List ℕ) (budget : ℕ) (sets : List ℕ) (low : ℕ) → Course image budget outcome sets work run FAILED low
        → Course image budget outcome sets work (in_state run OVER) WAY low
    go {outcome} image budget sets low (goes_on x i k) =
        let none : x.all ≡ [] = f image x.b x.all x.holds in
        let o : outcome ≡ finished (take run.count sets) run.nodes =
        x.answer ∙ ap (λ (l : List Node). Rules.run x.b (length sets) (budget - run.nodes) l (take run.count sets) run.nodes) none
        ∙ run_none x.b (length sets) (budget - run.nodes) (take run.count sets) run.nodes in
        ended (all_visited refl x.count o) (omega arith)
    go image budget sets low (ended x k) = absurd (not_ended sets run FAILED x e (omega arith, omega arith))

-- ---- a node

module _ {image : List ℕ} {budget : ℕ} {outcome : Outcome} {sets work : List ℕ} {run : Run} (searching : Searching image budget outcome sets work run) (st : run.state ≡ TASK) where
  -- what is due begins with the node in hand
  record Due : Type 0 where
    x : Node
    rest : List Node
    is : searching.all ≡ x ∷ rest

  due_node : Due
  due_node = go (in_hand searching.holds st) refl
    where
      go : {xs : List Node} → HandIn searching.holds TASK run.task run.agenda xs → searching.all ≡ xs → Due
      go (literal {ts} l a f) i = record { x = node_of (want (lit_of run.task) ∷ ts) searching.holds.sheet; rest = searching.holds.due; is = i }
      go (record_at {lss} {ts} p q c a f) i = record { x = node_of (pick lss ∷ ts) searching.holds.sheet; rest = searching.holds.due; is = i }
      go (last p q c) i = record { x = node_of [] searching.holds.sheet; rest = searching.holds.due; is = i }

  at_node_lem : Holds image searching.b work run (due_node.x ∷ due_node.rest)
  at_node_lem = subst (Holds image searching.b work run) due_node.is searching.holds

  at_counted : Holds image searching.b work (counting run) (due_node.x ∷ due_node.rest)
  at_counted = counting_holds at_node_lem

  pub searching_tasked : Tasked work run
  searching_tasked = record { image = image; b = searching.b; x = due_node.x; rest = due_node.rest; holds = at_node_lem; state = st }

  before : (run.nodes ≡ budget → ⊥) → run.nodes < budget
  before n = omega (arith, n, searching.nodes)

  -- the rules' search, with one node more to visit
  start : (run.nodes ≡ budget → ⊥)
      → outcome ≡ Rules.run searching.b (length sets) (suc (budget - (run.nodes + 1))) (due_node.x ∷ due_node.rest) (take run.count sets) run.nodes
  start n =
      let left : budget - run.nodes ≡ suc (budget - (run.nodes + 1)) = omega (arith, before n) in
      searching.answer ∙ ap₂ (λ (k : ℕ) (l : List Node). Rules.run searching.b (length sets) k l (take run.count sets) run.nodes) left due_node.is

  one_more : suc run.nodes ≡ run.nodes + 1
  one_more = omega arith

  went_short : run.nodes ≡ budget → Course image budget outcome sets work (in_state run SPENT) FAILED (suc run.nodes)
  went_short n =
      let spent : budget - run.nodes ≡ 0 = omega (arith, n) in
      let o : outcome ≡ Rules.used_up run.nodes =
      searching.answer ∙ ap₂ (λ (k : ℕ) (l : List Node). Rules.run searching.b (length sets) k l (take run.count sets) run.nodes) spent due_node.is
      ∙ run_short searching.b (length sets) due_node.x due_node.rest (take run.count sets) run.nodes in
      ended (out_of_budget refl o) (omega arith)

  run_some : (x : Node) (rest : List Node) (m : ℕ) (kept : List ℕ) (n : ℕ) → (x.agenda ≡ [] → ⊥) → length kept ≤ length sets
      → Rules.run searching.b (length sets) (suc m) (x ∷ rest) kept n ≡ Rules.run searching.b (length sets) m (children searching.b x ++ rest) kept (suc n)
  run_some x rest m kept n f g = go x.agenda refl
    where
      go : (ts : List Task) → x.agenda ≡ ts → Rules.run searching.b (length sets) (suc m) (x ∷ rest) kept n ≡ Rules.run searching.b (length sets) m (children searching.b x ++ rest) kept (suc n)
      go [] e = absurd (f e)
      go (t ∷ ts) e =
          let is : x ≡ node_of (t ∷ ts) x.sheet = ap (λ (l : List Task). node_of l x.sheet) e in
          subst (λ (y : Node). Rules.run searching.b (length sets) (suc m) (y ∷ rest) kept n ≡ Rules.run searching.b (length sets) m (children searching.b y ++ rest) kept (suc n)) (sym is)
          (run_task searching.b (length sets) m t ts x.sheet rest kept n g)

  went_task : (work' : List ℕ) (run' : Run) → (run.nodes ≡ budget → ⊥) → Visited work (counting run) work' run'
      → Course image budget outcome sets work' run' FAILED (suc run.nodes)
  went_task work' run' n a =
      let kept : length (take run.count sets) ≤ length sets = omega (arith, length-take run.count sets) in
      let o : outcome ≡ Rules.run searching.b (length sets) (budget - run'.nodes) (children searching.b due_node.x ++ due_node.rest) (take run'.count sets) run'.nodes =
      start n
      ∙ run_some due_node.x due_node.rest (budget - (run.nodes + 1)) (take run.count sets) run.nodes (a.some image searching.b due_node.x due_node.rest at_counted) kept
      ∙ same (children searching.b due_node.x ++ due_node.rest) run'.nodes run'.count (omega (arith, a.nodes)) (omega (arith, a.nodes)) (sym a.count) in
      goes_on
      (record {
        b = searching.b;
        all = children searching.b due_node.x ++ due_node.rest;
        holds = a.holds image searching.b due_node.x due_node.rest at_counted;
        nodes = omega (arith, a.nodes, before n);
        count = omega (arith, a.count, searching.count);
        entries = searching.entries;
        answer = o;
      })
      a.state (omega (arith, a.nodes))
    where
      same : (l : List Node) (m c : ℕ) → budget - (run.nodes + 1) ≡ budget - m → suc run.nodes ≡ m → run.count ≡ c
          → Rules.run searching.b (length sets) (budget - (run.nodes + 1)) l (take run.count sets) (suc run.nodes) ≡ Rules.run searching.b (length sets) (budget - m) l (take c sets) m
      same l m c p q i = rw (p, q, i)

  went_success : (after : List ℕ) (run' : Run) → (run.nodes ≡ budget → ⊥) → Success work (counting run) → SuccessKept sets (counting run) after run'
      → Course image budget outcome after work run' FAILED (suc run.nodes)
  went_success after run' n a c = go c
    where
      node : due_node.x ≡ node_of [] due_node.x.sheet
      node = ap (λ (l : List Task). node_of l due_node.x.sheet) (a.ends image searching.b due_node.x due_node.rest at_counted)

      begin : outcome
          ≡ Rules.run searching.b (length sets) (suc (budget - (run.nodes + 1))) (node_of [] due_node.x.sheet ∷ due_node.rest) (take run.count sets) run.nodes
      begin = start n ∙ ap (λ (y : Node). Rules.run searching.b (length sets) (suc (budget - (run.nodes + 1))) (y ∷ due_node.rest) (take run.count sets) run.nodes) node

      chosen : insert (take run.count sets) run.set ≡ insert (take run.count sets) (assumed searching.b due_node.x.sheet)
      chosen = ap (insert (take run.count sets)) (a.chosen image searching.b due_node.x due_node.rest at_counted)

      go : SuccessKept sets (counting run) after run' → Course image budget outcome after work run' FAILED (suc run.nodes)
      go (full p l i) =
          let o : outcome ≡ no_room (run.nodes + 1) =
          begin
          ∙ run_full searching.b (length sets) (budget - (run.nodes + 1)) due_node.x.sheet due_node.rest (take run.count sets) run.nodes
          (subst (λ (z : List ℕ). length sets < length z) chosen p)
          ∙ ap no_room one_more in
          subst (λ (p : Run). Course image budget outcome after work p FAILED (suc run.nodes)) (sym i)
          (ended (out_of_room refl o) (omega arith))
      go (inserted m c p t l i) =
          let o : outcome ≡ Rules.run searching.b (length after) (budget - (run.nodes + 1)) due_node.rest (take m after) (run.nodes + 1) =
          begin
          ∙ run_room searching.b (length sets) (budget - (run.nodes + 1)) due_node.x.sheet due_node.rest (take run.count sets) run.nodes
          (omega (arith, c, p, ap length chosen))
          ∙ ap₂ (λ (z : List ℕ) (y : ℕ). Rules.run searching.b (length sets) (budget - (run.nodes + 1)) due_node.rest z y) (sym (t ∙ chosen)) one_more
          ∙ ap (λ (z : ℕ). Rules.run searching.b z (budget - (run.nodes + 1)) due_node.rest (take m after) (run.nodes + 1)) (sym l) in
          subst (λ (p : Run). Course image budget outcome after work p FAILED (suc run.nodes)) (sym i)
          (goes_on
          (record {
            b = searching.b;
            all = due_node.rest;
            holds = a.after image searching.b due_node.x due_node.rest m at_counted;
            nodes = omega (arith, before n);
            count = omega (arith, p, l);
            entries = omega (arith, searching.entries, l);
            answer = o;
          })
          (omega arith) (omega arith))

  went_on : (after work' : List ℕ) (run' : Run) → Went budget sets work run after work' run' → Course image budget outcome after work' run' FAILED (suc run.nodes)
  went_on after work' run' (Went.used_up n i j e) =
      subst (λ (l : List ℕ). Course image budget outcome l work' run' FAILED (suc run.nodes)) (sym i)
      (subst₂ (λ (l : List ℕ) (o : Run). Course image budget outcome sets l o FAILED (suc run.nodes)) (sym j) (sym e) (went_short n))
  went_on after work' run' (visits n a i) =
      subst (λ (l : List ℕ). Course image budget outcome l work' run' FAILED (suc run.nodes)) (sym i) (went_task work' run' n a)
  went_on after work' run' (Went.succeeds n a c j) =
      subst (λ (l : List ℕ). Course image budget outcome after l run' FAILED (suc run.nodes)) (sym j) (went_success after run' n a c)

-- ---- a step

module _ {image : List ℕ} {budget : ℕ} {sets work : List ℕ} {run : Run} where
  pub stepped_visit : {after work' : List ℕ} {run' : Run} → run.state ≡ TASK → Went budget sets work run after work' run'
      → Stepped image budget sets work run after work' run' FAILED
  stepped_visit {after} {work'} {run'} st w = record { next = λ outcome searching. went_on searching st after work' run' w; later = go w }
    where
      go : Went budget sets work run after work' run' → drop layout.end work' ≡ drop layout.end work
      go (Went.used_up n i j e) = ap (drop layout.end) j
      go (visits n a i) = a.later
      go (Went.succeeds n a c j) = ap (drop layout.end) j

  pub stepped_somewhere : {outcome : Outcome} {after work' : List ℕ} {run' : Run} {n : State} → Searching image budget outcome sets work run
      → Stepped image budget sets work run after work' run' n → Somewhere work' run' n
  stepped_somewhere {outcome} {after} h p = record { image = image; budget = budget; outcome = outcome; sets = after; low = suc run.nodes; state = p.next outcome h }

  pub stepped_passes : {after work' work'' : List ℕ} {run' run'' : Run} {m n : State} → Stepped image budget sets work run after work' run' m → Passes work' run' m work'' run'' n → Stepped image budget sets work run after work'' run'' n
  stepped_passes {after} p x = record { next = λ outcome h. x.next image budget outcome after (suc run.nodes) (p.next outcome h); later = x.later ∙ p.later }

  pub stepped_placed : {outcome : Outcome} {after work' : List ℕ} {run' : Run} {n : State} → Searching image budget outcome sets work run
      → Stepped image budget sets work run after work' run' n → Placed image work' run' n
  stepped_placed {outcome} {after} h p = record { budget = budget; outcome = outcome; sets = after; low = suc run.nodes; state = p.next outcome h }

  pub stepped_onward : {after work' : List ℕ} {run' run'' : Run} → Stepped image budget sets work run after work' run' AGENDA
      → Onward image work' run' run'' → Stepped image budget sets work run after work' run'' TASK
  stepped_onward {after} p x = record { next = λ outcome h. x.next budget outcome after (suc run.nodes) (p.next outcome h); later = p.later }

pub placed_standing : (image work : List ℕ) (run : Run) → Placed image work run AGENDA → run.state ≡ AGENDA → Standing image work run AGENDA
placed_standing image work run p e = go p.state
  where
    go : Course image p.budget p.outcome p.sets work run AGENDA p.low → Standing image work run AGENDA
    go (goes_on x i k) = record { b = x.b; all = x.all; holds = x.holds; state = e }
    go (ended x k) = absurd (not_ended p.sets run AGENDA x e (omega arith, omega arith))

pub onward_moved : (image work : List ℕ) (run run' : Run) → run.state ≡ AGENDA → Moved image work run work run' TASK → Onward image work run run'
onward_moved image work run run' e m = record { next = λ budget outcome sets low x. go budget sets low x }
  where
    go : {outcome : Outcome} (budget : ℕ) (sets : List ℕ) (low : ℕ) → Course image budget outcome sets work run AGENDA low
        → Course image budget outcome sets work run' TASK low
    go budget sets low (goes_on x i k) = goes_on (moved_on image budget sets work run work run' TASK m x) m.state (omega (arith, m.nodes))
    go budget sets low (ended x k) = absurd (not_ended sets run AGENDA x e (omega arith, omega arith))

pub onward_same : (image work : List ℕ) (run : Run) → (run.state ≡ AGENDA → ⊥) → Onward image work run run
onward_same image work run e = record { next = λ budget outcome sets low x. go budget sets low x }
  where
    go : {outcome : Outcome} (budget : ℕ) (sets : List ℕ) (low : ℕ) → Course image budget outcome sets work run AGENDA low
        → Course image budget outcome sets work run TASK low
    go budget sets low (goes_on x i k) =
        let two : rank run.state ≡ rank AGENDA → ⊥ = λ z. e (rank_tells run.state AGENDA z) in
        let one : rank run.state ≡ rank OVER → ⊥ = λ z. working x.holds (rank_tells run.state OVER z) in
        goes_on x (omega (arith, two, one)) k
    go budget sets low (ended x k) = ended x k

-- ---- the whole

-- an end is told by a run's state
pub tells_over : (run : Run) → run.state ≡ OVER → Tells run (Finished run.count run.nodes)
tells_over run e outcome sets (all_visited i l o) = record { is = o; few = l }
tells_over run e outcome sets (out_of_budget i o) = absurd (omega (arith, ap rank (sym i ∙ e)))
tells_over run e outcome sets (out_of_room i o) = absurd (omega (arith, ap rank (sym i ∙ e)))

pub tells_spent : (run : Run) → run.state ≡ SPENT → Tells run (UsedUp run.nodes)
tells_spent run e outcome sets (all_visited i l o) = absurd (omega (arith, ap rank (sym i ∙ e)))
tells_spent run e outcome sets (out_of_budget i o) = record { is = o; few = omega arith }
tells_spent run e outcome sets (out_of_room i o) = absurd (omega (arith, ap rank (sym i ∙ e)))

pub tells_full : (run : Run) → (run.state ≡ OVER → ⊥) → (run.state ≡ SPENT → ⊥) → Tells run (NoRoom run.nodes)
tells_full run d e outcome sets (all_visited i l o) = absurd (d i)
tells_full run d e outcome sets (out_of_budget i o) = absurd (e i)
tells_full run d e outcome sets (out_of_room i o) = record { is = o; few = omega arith }

module _ {image : List ℕ} {budget : ℕ} {outcome : Outcome} where
  pub still_searching : {sets work : List ℕ} {run : Run} {low : ℕ} → Course image budget outcome sets work run TASK low → run.state ≡ TASK
      → Searching image budget outcome sets work run
  still_searching (goes_on x i k) e = x
  still_searching (ended (all_visited y c a) k) e = absurd (omega (arith, ap rank (sym y ∙ e)))
  still_searching (ended (out_of_budget y a) k) e = absurd (omega (arith, ap rank (sym y ∙ e)))
  still_searching (ended (out_of_room y a) k) e = absurd (omega (arith, ap rank (sym y ∙ e)))

  pub state_ending : {sets work : List ℕ} {run : Run} {low : ℕ} → Course image budget outcome sets work run TASK low → (run.state ≡ TASK → ⊥)
      → Ending outcome sets run
  state_ending {run = run} (goes_on x i k) n = absurd (n (rank_tells run.state TASK (omega arith)))
  state_ending (ended x k) n = x

  pub state_lower : {sets work : List ℕ} {run : Run} {low : ℕ} → Course image budget outcome sets work run TASK low → Course image budget outcome sets work run TASK 0
  state_lower (goes_on x i k) = goes_on x i (omega arith)
  state_lower (ended x k) = ended x (omega arith)

  pub started : {sets work : List ℕ} {run : Run} → Searching image budget outcome sets work run → run.state ≡ TASK → Course image budget outcome sets work run TASK 0
  started h e = goes_on h (omega (arith, ap rank e)) (omega arith)

  ahead_falls : {after work' : List ℕ} {run' : Run} (run : Run) → run.nodes ≤ budget → run.state ≡ TASK
      → Course image budget outcome after work' run' TASK (suc run.nodes) → ahead budget run' < ahead budget run
  ahead_falls run h z (goes_on x i k) = omega (arith, x.nodes, ap rank z)
  ahead_falls run h z (ended (all_visited y c a) k) = omega (arith, ap rank y, ap rank z)
  ahead_falls run h z (ended (out_of_budget y a) k) = omega (arith, ap rank y, ap rank z)
  ahead_falls run h z (ended (out_of_room y a) k) = omega (arith, ap rank y, ap rank z)

  pub stepped_falls : {sets work after work' : List ℕ} {run run' : Run} → Searching image budget outcome sets work run → run.state ≡ TASK
      → Stepped image budget sets work run after work' run' TASK → ahead budget run' < ahead budget run
  stepped_falls {run = run} h z p = ahead_falls run h.nodes z (p.next outcome h)
