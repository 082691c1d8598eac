-- The agenda's first task is taken in hand.
-- Assumes nothing.
use Prim.Native.Nat.{ℕ, zero, suc, ◌+◌, ◌*◌, ◌≤◌, ◌<◌}
use native.Mathlib.Omega.{arith}
use Rattle.std.specs.Prelude.{◌≡◌, refl, ◌⊎◌, length, get_or, drop}
use Rattle.std.proofs.Common.{sym, ap, subst, ◌∙◌, inl, inr, length-drop, drop-drop}
use mathlib.Core.List.{List, [], ◌∷◌, ◌++◌, map}
use Rattle.base.specs.Lists.{every_first}
use Rattle.image.specs.paper.Book.{Lit, Constraint, Book}
use Rattle.image.specs.paper.Walk.{field_at}
use Rattle.image.specs.paper.Decode.{lit_of}
use Rattle.image.specs.Shown.{lits_at}
use Rattle.image.specs.Encode.{longest_image_lem}
use Rattle.image.specs.Accepted.{within}
use Rattle.searching.specs.paper.Rules.{Task, want, pick, keep, Node}
use Rattle.area.specs.Ground.{Chain, Records, Ground, Tabled}
use Rattle.area.specs.Area as layout
use Rattle.image.specs.paper.Faults.{limits}
use Rattle.memory.specs.Places.{cell_agenda, record_agenda, entry_at, entry}
use Rattle.memory.specs.declared.run.Agenda.{Agenda}
use Rattle.memory.specs.declared.run.Run.{Run}
use Rattle.memory.specs.States.{TASK, AGENDA}
use Rattle.memory.specs.Machine.{node_of, Own, lits, records, Tail, constraints_from, laid, Leads, linked, more, Short, Free, short, empty, Fine, literal, record_at, last, agenda, Holds, HandIn, HandOf, in_hand, with_hand}
use Rattle.memory.specs.Memory.{agenda_is, tail_more}
use Rattle.memory.specs.Marks.{trail_few}
use Rattle.memory.specs.Pieces.{Refilled, from_cell, as_is}
use Rattle.memory.specs.Agendas.{own_apart, leads_small}
use Rattle.memory.specs.Agreed.{Standing, Moved}

-- the agenda with a first task of its own, or the end of all tasks
data Open (image : List ℕ) (b : Book) (tab : ℕ → ℕ) (work : List ℕ) (m : ℕ) : Agenda → List Task → Type 0 where
  tasks : {at end link : ℕ} {ts us : List Task} → Own image tab at end ts → Tail image b tab work m link us → Open image b tab work m (record { at = at; end = end; link = link }) (ts ++ us)
  over : {at end link : ℕ} → end ≡ layout.no_end → layout.clause_records ≤ at → at + 1 < layout.cells → tab at ≡ layout.no_task → Open image b tab work m (record { at = at; end = end; link = link }) []

drop_empty : {A : Type 0} (k : ℕ) (l : List A) → drop k l ≡ [] → length l ≤ k
drop_empty k l e = omega (arith, length-drop k l, ap length e)

drop_next : {A : Type 0} (k : ℕ) (l : List A) (a : A) (t : List A) → drop k l ≡ a ∷ t → (drop (k + 1) l ≡ t) × (k < length l)
drop_next k l a t e =
    (sym (drop-drop 1 k l) ∙ ap (drop 1) e, omega (arith, length-drop k l, ap length e))

module _ {image : List ℕ} {book : Book} {tab : ℕ → ℕ} {work : List ℕ} {sheet : List Lit} (marks : ℕ) (grounded : Ground image book tab) (tabled : Tabled tab work sheet) where
  constraints_few : length book.constraints ≤ limits.constraints
  constraints_few = (within image book grounded.book).constraints

  open_constraints : (k : ℕ) → k ≤ length book.constraints
      → Open image book tab work marks (cell_agenda work (layout.cell_from k)) (map keep (drop k book.constraints))
  open_constraints k h = go (drop k book.constraints) refl
    where
      e0 : get_or work (layout.cell_from k) 0 ≡ layout.constraint_record k
      e0 = tabled.tabled (layout.cell_from k) (omega arith) (omega (arith, constraints_few)) ∙ (grounded.cell k h).0

      e1 : get_or work (layout.cell_from k + 1) 0 ≡ 0
      e1 = tabled.tabled (layout.cell_from k + 1) (omega arith) (omega (arith, constraints_few)) ∙ (grounded.cell k h).1

      e2 : get_or work (layout.cell_from k + 2) 0 ≡ layout.cell_from (k + 1)
      e2 = tabled.tabled (layout.cell_from k + 2) (omega arith) (omega (arith, constraints_few)) ∙ (grounded.cell k h).2

      moved : {ts : List Task} → Open image book tab work marks (record_agenda (layout.constraint_record k) (layout.cell_from (k + 1))) ts → Open image book tab work marks (cell_agenda work (layout.cell_from k)) ts
      moved {ts} o = subst (λ (c : Agenda). Open image book tab work marks c ts) (sym (agenda_is e0 e1 e2)) o

      go : (cs : List Constraint) → drop k book.constraints ≡ cs
          → Open image book tab work marks (cell_agenda work (layout.cell_from k)) (map keep cs)
      go [] e =
          let all : k ≡ length book.constraints = omega (arith, drop_empty k book.constraints e) in
          moved (over refl (omega arith) (omega (arith, constraints_few)) (ap (λ (n : ℕ). tab (layout.constraint_record n)) all ∙ grounded.last))
      go (c ∷ cs) e =
          let n = drop_next k book.constraints c cs e in
          moved
          (tasks (records refl (grounded.constraint k c cs e))
          (subst (λ (l : List Constraint). Tail image book tab work marks (layout.cell_from (k + 1)) (map keep l)) n.0 (constraints_from (k + 1) (omega (arith, n.1)))))

  open_tail : {link : ℕ} {us : List Task} → Tail image book tab work marks link us → Open image book tab work marks (cell_agenda work link) us
  open_tail (constraints_from k h) = open_constraints k h
  open_tail (laid {ts = ts} {us} j h o t) =
      let here : entry_at j + 0 ≡ entry_at j = omega arith in
      let up : j ≤ marks = omega arith in
      subst (λ (n : ℕ). Open image book tab work marks (record { at = get_or work n 0; end = entry work j 1; link = entry work j 2 }) (ts ++ us)) here (tasks o (tail_more image book tab up t))

  refilled_open : (run q : Run) {ts : List Task} → Leads image book tab work marks run.agenda ts → Refilled work run q → Open image book tab work marks q.agenda ts
  refilled_open run q {ts} (linked e i t) (from_cell p f) = subst (λ (x : Run). Open image book tab work marks x.agenda ts) (sym f) (open_tail t)
  refilled_open run q (more o t) (from_cell p f) = absurd (own_apart o p)
  refilled_open run q (linked e i t) (as_is p f) = absurd (p e)
  refilled_open run q {ts} (more o t) (as_is p f) = subst (λ (x : Run). Open image book tab work marks x.agenda ts) (sym f) (tasks o t)

  open_safe : {a : Agenda} {ts : List Task} → Open image book tab work marks a ts → (a.at < a.end → a.at + 2 ≤ length image) × (a.at + 1 < layout.end)
  open_safe (tasks (lits n e l) t) = (λ h. omega arith, omega (arith, longest_image_lem image book grounded.book))
  open_safe (tasks (records z (Records.record_at p q c k u)) t) = (λ h. absurd (omega arith), omega arith)
  open_safe (over e p q c) = (λ h. absurd (omega arith), omega arith)

  record FirstLiteral (a : Agenda) (ts : List Task) : Type 0 where
    rest : List Task
    is : ts ≡ want (lit_of (field_at image a.at)) ∷ rest
    behind : Leads image book tab work marks (record { at = a.at + 2; end = a.end; link = a.link }) rest

  open_lit : {a : Agenda} {ts : List Task} → Open image book tab work marks a ts → a.at < a.end → FirstLiteral a ts
  unfolding lits_at
  open_lit (tasks {at = at} {end} {us = us} (lits zero e l) t) h = record {
    rest = us;
    is = refl;
    behind = let there : at + 2 ≡ end = omega arith in let low : at + 2 < layout.places = omega (arith, longest_image_lem image book grounded.book) in linked there low t;
  }
  open_lit (tasks {at = at} {end} {us = us} (lits (suc n) e l) t) h = record {
    rest = map want (lits_at image (at + 2) (suc n)) ++ us;
    is = refl;
    behind = let ends : end ≡ at + 2 + 2 * suc n = omega arith in more (lits n ends l) t;
  }
  open_lit (tasks (records z (Records.record_at p q c k u)) t) h = absurd (omega arith)
  open_lit (over e p q c) h = absurd (omega arith)

  data FirstRecord (a : Agenda) (ts : List Task) : Type 0 where
    picks : (lss : List (List Lit)) (rest : List Task) → ts ≡ pick lss ∷ rest → layout.clause_records ≤ a.at → a.at + 1 < layout.cells → Chain image tab (tab a.at) lss
        → Free image book tab work marks marks (record { at = tab (a.at + 1); end = a.end; link = a.link }) rest lss → FirstRecord a ts
    ends : ts ≡ [] → layout.clause_records ≤ a.at → a.at + 1 < layout.cells → tab a.at ≡ layout.no_task → FirstRecord a ts

  behind_record_lem : {n end link : ℕ} {ts us : List Task} {lss : List (List Lit)} → end ≡ layout.no_end → Records image tab n ts → Short lss ⊎ (n ≡ 0) → Tail image book tab work marks link us
      → Free image book tab work marks marks (record { at = n; end = end; link = link }) (ts ++ us) lss
  behind_record_lem z Records.end k t = let low : 0 < layout.places = omega arith in empty (sym z) low t
  behind_record_lem z (Records.record_at p q c i u) (inl k) t = short (more (records z (Records.record_at p q c i u)) t) k
  behind_record_lem z (Records.record_at p q c i u) (inr k) t = absurd (omega arith)

  open_record : {a : Agenda} {ts : List Task} → Open image book tab work marks a ts → a.end ≤ a.at → FirstRecord a ts
  open_record (tasks (lits n e l) t) h = absurd (omega arith)
  open_record (tasks {us = us} (records z (Records.record_at {lss = lss} {ts} p q c k u)) t) h = picks lss (ts ++ us) refl p q c (behind_record_lem z u k t)
  open_record (over e p q c) h = ends refl p q c

-- the run with the first task in hand
abbrev pub taking : Run → ℕ → ℕ → Run
taking q x a =
    record { state = TASK; task = x; agenda = record { at = a; end = q.agenda.end; link = q.agenda.link }; marked = q.marked; top = q.top; nodes = q.nodes; count = q.count; set = q.set }

refilled_keeps : (work : List ℕ) (run q : Run) → Refilled work run q → (q.set ≡ run.set) × (q.marked ≡ run.marked) × (q.top ≡ run.top) × (q.nodes ≡ run.nodes) × (q.count ≡ run.count)
refilled_keeps work run q (from_cell e i) = rw i (refl, refl, refl, refl, refl)
refilled_keeps work run q (as_is e i) = rw i (refl, refl, refl, refl, refl)

module _ {image : List ℕ} {book : Book} {work : List ℕ} {run run' : Run} {all : List Node} (memory : Holds image book work run all) (st : run.state ≡ AGENDA) (refilled : Refilled work run run') where
  record Opened : Type 0 where
    ts : List Task
    opened : Open image book memory.tab work memory.marks run'.agenda ts
    is_fine : Fine book memory.height (node_of ts memory.sheet)
    is : all ≡ node_of ts memory.sheet ∷ memory.due

  opening : Opened
  opening = go (in_hand memory st) refl
    where
      go : {xs : List Node} → HandIn memory AGENDA run.task run.agenda xs → all ≡ xs → Opened
      go (agenda {ts} a fn) i = record { ts = ts; opened = refilled_open memory.marks memory.grounded memory.area run run' a refilled; is_fine = fn; is = i }

  front_safe : (run'.agenda.at < run'.agenda.end → run'.agenda.at + 2 ≤ length image) × (run'.agenda.at + 1 < layout.end) × (layout.Long work)
  front_safe = let o = open_safe memory.marks memory.grounded memory.area opening.opened in (o.0, o.1, memory.area.long)

  keeps : (run'.set ≡ run.set) × (run'.marked ≡ run.marked) × (run'.top ≡ run.top) × (run'.nodes ≡ run.nodes) × (run'.count ≡ run.count)
  keeps = refilled_keeps work run run' refilled

  lit_holds : run'.agenda.at < run'.agenda.end → Holds image book work (taking run' (field_at image run'.agenda.at) (run'.agenda.at + 2)) all
  lit_holds l =
      let o = opening in
      let t = open_lit memory.marks memory.grounded memory.area o.opened l in
      let fn : Fine book memory.height (node_of (want (lit_of (field_at image run'.agenda.at)) ∷ t.rest) memory.sheet) =
      subst (λ (ts : List Task). Fine book memory.height (node_of ts memory.sheet)) t.is o.is_fine in
      let small : field_at image run'.agenda.at < layout.literal_numbers = omega (arith, every_first fn.1, (within image book memory.grounded.book).atoms) in
      with_hand memory (taking run' (field_at image run'.agenda.at) (run'.agenda.at + 2)) keeps.0 keeps.1 keeps.2
      (subst (HandOf memory (taking run' (field_at image run'.agenda.at) (run'.agenda.at + 2)))
      (sym (o.is ∙ ap (λ (ts : List Task). node_of ts memory.sheet ∷ memory.due) t.is))
      (literal small t.behind fn))

  record_holds : run'.agenda.end ≤ run'.agenda.at → Holds image book work (taking run' run'.agenda.at (memory.tab (run'.agenda.at + 1))) all
  record_holds l = go (open_record memory.marks memory.grounded memory.area opening.opened l)
    where
      go : FirstRecord memory.marks memory.grounded memory.area run'.agenda opening.ts → Holds image book work (taking run' run'.agenda.at (memory.tab (run'.agenda.at + 1))) all
      go (picks lss rest i p k c fr) =
          with_hand memory (taking run' run'.agenda.at (memory.tab (run'.agenda.at + 1))) keeps.0 keeps.1 keeps.2
          (subst (HandOf memory (taking run' run'.agenda.at (memory.tab (run'.agenda.at + 1))))
          (sym (opening.is ∙ ap (λ (ts : List Task). node_of ts memory.sheet ∷ memory.due) i))
          (record_at p k c fr (subst (λ (ts : List Task). Fine book memory.height (node_of ts memory.sheet)) i opening.is_fine)))
      go (ends i p k c) =
          with_hand memory (taking run' run'.agenda.at (memory.tab (run'.agenda.at + 1))) keeps.0 keeps.1 keeps.2
          (subst (HandOf memory (taking run' run'.agenda.at (memory.tab (run'.agenda.at + 1))))
          (sym (opening.is ∙ ap (λ (ts : List Task). node_of ts memory.sheet ∷ memory.due) i))
          (last p (omega arith) c))

  -- the next record's number stands in the tables
  next_record : run'.agenda.end ≤ run'.agenda.at → get_or work (run'.agenda.at + 1) 0 ≡ memory.tab (run'.agenda.at + 1)
  next_record l = go (open_record memory.marks memory.grounded memory.area opening.opened l)
    where
      go : FirstRecord memory.marks memory.grounded memory.area run'.agenda opening.ts → get_or work (run'.agenda.at + 1) 0 ≡ memory.tab (run'.agenda.at + 1)
      go (picks lss rest i p k c fr) = memory.area.tabled (run'.agenda.at + 1) (omega arith) (omega arith)
      go (ends i p k c) = memory.area.tabled (run'.agenda.at + 1) (omega arith) (omega arith)

module _ (image work : List ℕ) (run : Run) (pre : Standing image work run AGENDA) where
  -- an agenda's link leads into the work area
  pub link_small : (run.agenda.link + 2 < length work) × (run.agenda.link < layout.end)
  link_small = go (in_hand pre.holds pre.state)
    where
      go : {xs : List Node} → HandIn pre.holds AGENDA run.task run.agenda xs → (run.agenda.link + 2 < length work) × (run.agenda.link < layout.end)
      go (agenda a f) = let sm = leads_small pre.holds.grounded (trail_few pre.holds.trail) a in (omega (arith, sm.2, pre.holds.area.long), omega (arith, sm.2))

  module _ (run' : Run) (refilled : Refilled work run run') where
    pub open_places : (run'.agenda.at < run'.agenda.end → run'.agenda.at + 2 ≤ length image) × (run'.agenda.at + 1 < layout.end) × (layout.Long work)
    open_places = front_safe pre.holds pre.state refilled

    pub front_literal : (o : Run) (x : ℕ) → run'.agenda.at < run'.agenda.end → x ≡ field_at image run'.agenda.at → o ≡ taking run' x (run'.agenda.at + 2) → Moved image work run work o TASK
    front_literal o x l i e =
        subst (λ (p : Run). Moved image work run work p TASK) (sym (e ∙ ap (λ (y : ℕ). taking run' y (run'.agenda.at + 2)) i))
        (record {
          holds = λ b all h. lit_holds h pre.state refilled l;
          state = omega arith;
          nodes = (refilled_keeps work run run' refilled).3;
          count = (refilled_keeps work run run' refilled).4;
          later = refl;
        })

    pub front_record : (o : Run) (y : ℕ) → run'.agenda.end ≤ run'.agenda.at → y ≡ get_or work (run'.agenda.at + 1) 0 → o ≡ taking run' run'.agenda.at y → Moved image work run work o TASK
    front_record o y l i e =
        subst (λ (p : Run). Moved image work run work p TASK) (sym (e ∙ ap (λ (z : ℕ). taking run' run'.agenda.at z) i))
        (record {
          holds = λ b all h.
              subst (λ (z : ℕ). Holds image b work (taking run' run'.agenda.at z) all) (sym (next_record h pre.state refilled l))
              (record_holds h pre.state refilled l);
          state = omega arith;
          nodes = (refilled_keeps work run run' refilled).3;
          count = (refilled_keeps work run run' refilled).4;
          later = refl;
        })
