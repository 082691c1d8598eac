-- A literal is wanted.
-- Assumes nothing.
use Rattle.std.specs.Prelude.{ℕ, suc, ◌+◌, ◌/◌, ◌%◌, ◌^◌, ◌≤◌, ◌<◌, ◌≡◌, refl, false, ◌⊎◌, List, [], ◌∷◌, ◌++◌, map, ltb, get_or, set, drop}
use Rattle.std.proofs.Common.{arith, sym, ap, ap₂, subst, ◌∙◌, inl, inr, ⊎_elim, ltb-true, ltb-false, length-set, get_or-set_same, get_or-set_other, drop-set-lt}
use Rattle.base.specs.Bools.{decide}
use Rattle.base.specs.paper.Lists.{Every}
use Rattle.base.specs.Lists.{every_first}
use Rattle.image.specs.paper.Book.{Lit, Clause, Book}
use Rattle.image.specs.Sound.{Orderly}
use Rattle.image.specs.paper.Decode.{lit_of}
use Rattle.image.specs.Accepted.{within}
use Rattle.image.proofs.Accepted.{orderly}
use Rattle.meaning.specs.paper.Meaning.{clauses_for}
use Rattle.searching.specs.paper.Rules.{opposite, Task, want, break, Node, on, assumed, children}
use Rattle.area.specs.Ground.{Chain, Records, Denied, undefined, broken, Ground, Tabled}
use Rattle.area.specs.Area as layout
use Rattle.image.specs.paper.Faults.{limits}
use Rattle.memory.specs.Places.{record_agenda, entry_at, bits64, entry_literal}
use Rattle.memory.specs.declared.run.Run.{Run}
use Rattle.memory.specs.States.{TASK, AGENDA, WAY, FAILED}
use Rattle.memory.specs.Machine.{node_of, Trail, marks, records, Tail, Leads, more, Short, older, Fine, by_ways, Held, under, Hand, literal, record_at, last, agenda, failed, way, Holds, HandIn, HandOf, in_hand, with_hand}
use Rattle.memory.specs.Memory.{trail_same, leads_more, leads_same, held_used, held_same}
use Rattle.memory.specs.Sheet.{parity, lit_even, lit_odd, Unmarked, free_lit, reads_free, reads_so, reads_refused, tabled_marked, tabled_same, assumed_defined, assumed_negated, assumed_joined}
use Rattle.memory.specs.Tasks.{children_refused, children_so, children_takes, children_opens, children_denies, fine_children, held_free}
use Rattle.memory.specs.Bits.{assumed_fits}
use Rattle.memory.specs.Marks.{trail_few, trail_room}
use Rattle.memory.specs.Pieces.{in_state, giving, placing, Layable, LaidDown, marked_with, raised, adding, Markable}
use Rattle.memory.specs.Agendas.{leads_small, Down, lay_down}
use Rattle.memory.specs.Chains.{chain_none, chain_empty, chain_apart}

-- ---- what the number of a literal says

data Says (image : List ℕ) (book : Book) (tab : ℕ → ℕ) (wanted n : ℕ) : Type 0 where
  assumes : wanted % 2 ≡ 0 → wanted / 2 < book.abducibles → n ≡ layout.joins_set → Says image book tab wanted n
  excludes : wanted % 2 ≡ 1 → wanted / 2 < book.abducibles → n ≡ layout.joins → Says image book tab wanted n
  proves : wanted % 2 ≡ 0 → book.abducibles ≤ wanted / 2 → Chain image tab n (map (λ (c : Clause). c.body) (clauses_for book (wanted / 2))) → Says image book tab wanted n
  denies : wanted % 2 ≡ 1 → book.abducibles ≤ wanted / 2 → Denied image tab n (map break (clauses_for book (wanted / 2))) → Says image book tab wanted n

says : (image : List ℕ) (book : Book) (tab : ℕ → ℕ) (wanted : ℕ) → Ground image book tab → wanted / 2 < book.atoms → Says image book tab wanted (tab (layout.literals + wanted))
says image book tab wanted grounded known = ⊎_elim (λ e. ⊎_elim (λ p. even e p) (λ p. even' e p) side) (λ e. ⊎_elim (λ p. odd e p) (λ p. odd' e p) side) (parity wanted)
  where
    side : (wanted / 2 < book.abducibles) ⊎ (book.abducibles ≤ wanted / 2)
    side = ⊎_elim (λ e. inl (ltb-true (wanted / 2) book.abducibles e)) (λ e. inr (ltb-false (wanted / 2) book.abducibles e)) (decide (ltb (wanted / 2) book.abducibles))

    at0 : wanted % 2 ≡ 0 → layout.wanted_true (wanted / 2) ≡ layout.literals + wanted
    at0 e = omega arith

    at1 : wanted % 2 ≡ 1 → layout.wanted_false (wanted / 2) ≡ layout.literals + wanted
    at1 e = omega arith

    even : wanted % 2 ≡ 0 → wanted / 2 < book.abducibles → Says image book tab wanted (tab (layout.literals + wanted))
    even e p = assumes e p (ap tab (sym (at0 e)) ∙ (grounded.assumable (wanted / 2) p).0)

    even' : wanted % 2 ≡ 0 → book.abducibles ≤ wanted / 2 → Says image book tab wanted (tab (layout.literals + wanted))
    even' e p = proves e p (subst (λ (n : ℕ). Chain image tab (tab n) (map (λ (c : Clause). c.body) (clauses_for book (wanted / 2)))) (at0 e) (grounded.reached (wanted / 2) p known))

    odd : wanted % 2 ≡ 1 → wanted / 2 < book.abducibles → Says image book tab wanted (tab (layout.literals + wanted))
    odd e p = excludes e p (ap tab (sym (at1 e)) ∙ (grounded.assumable (wanted / 2) p).1)

    odd' : wanted % 2 ≡ 1 → book.abducibles ≤ wanted / 2 → Says image book tab wanted (tab (layout.literals + wanted))
    odd' e p = denies e p (subst (λ (n : ℕ). Denied image tab (tab n) (map break (clauses_for book (wanted / 2)))) (at1 e) (grounded.denied (wanted / 2) p known))

-- a record's number
denied_apart : {image : List ℕ} {tab : ℕ → ℕ} {n : ℕ} {ts : List Task} → Denied image tab n ts → (n ≡ 0 → ⊥) × (n ≡ layout.joins_set → ⊥)
denied_apart undefined = (λ e. omega (arith, e), λ e. omega (arith, e))
denied_apart (broken (Records.record_at p q c k u)) = (λ e. omega (arith, e, p), λ e. omega (arith, e, p))

-- ---- a literal in hand

module _ {image : List ℕ} {book : Book} {work : List ℕ} {run : Run} {first : Node} {rest : List Node} (memory : Holds image book work run (first ∷ rest)) (st : run.state ≡ TASK) (wanted : ℕ) (is-task : wanted ≡ run.task) (lit : run.task < layout.literal_numbers) where
  record Wanting : Type 0 where
    ts : List Task
    behind : Leads image book memory.tab work memory.marks run.agenda ts
    is_fine : Fine book memory.height (node_of (want (lit_of wanted) ∷ ts) memory.sheet)
    node : first ≡ node_of (want (lit_of wanted) ∷ ts) memory.sheet
    due : memory.due ≡ rest

  wanting : Wanting
  wanting = go (in_hand memory st) refl
    where
      go : {xs : List Node} → HandIn memory TASK run.task run.agenda xs → xs ≡ first ∷ rest → Wanting
      go (literal {ts} l a f) i =
          let m : node_of (want (lit_of run.task) ∷ ts) memory.sheet ≡ first = cc in
          let n : memory.due ≡ rest = cc in
          record {
            ts = ts;
            behind = a;
            is_fine = subst (λ (z : ℕ). Fine book memory.height (node_of (want (lit_of z) ∷ ts) memory.sheet)) (sym is-task) f;
            node = sym m ∙ ap (λ (z : ℕ). node_of (want (lit_of z) ∷ ts) memory.sheet) (sym is-task);
            due = n;
          }
      go (record_at p q c a f) i = absurd (omega (arith, p, lit))
      go (last p q c) i = absurd (omega (arith, p, lit))

  ordered : Orderly book
  ordered = orderly image book memory.grounded.book

  small : wanted < layout.literal_numbers
  small = omega (arith, is-task, lit)

  known : wanted / 2 < book.atoms
  known = every_first wanting.is_fine.1

  atom : wanted / 2 < limits.atoms
  atom = omega (arith, small)

  child_nodes : (ns : List Node) → children book (node_of (want (lit_of wanted) ∷ wanting.ts) memory.sheet) ≡ ns → ns ++ memory.due ≡ children book first ++ rest
  child_nodes ns e = ap₂ (λ (l m : List Node). l ++ m) (sym (ap (children book) wanting.node ∙ e)) wanting.due

  pub has_task : first.agenda ≡ [] → ⊥
  has_task e = let z : want (lit_of wanted) ∷ wanting.ts ≡ [] = sym (ap (λ (n : Node). n.agenda) wanting.node) ∙ e in let o : ◌≡◌ {A = ℕ} 0 1 = cc in omega arith

  -- its atom is marked
  pub want_so : get_or work (wanted / 2) 0 ≡ wanted + 1 → Holds image book work (in_state run AGENDA) (children book first ++ rest)
  want_so m =
      let v = wanting in
      let on = reads_so memory.area wanted atom m in
      let ch = children_so book memory.sheet v.ts (lit_of wanted) on.0 on.1 in
      let fn = every_first (subst (Every (Fine book (memory.height + 0))) ch (fine_children book ordered memory.height 0 (want (lit_of wanted)) v.ts memory.sheet (omega arith) v.is_fine)) in
      with_hand memory (in_state run AGENDA) refl refl refl
      (subst (HandOf memory (in_state run AGENDA)) (child_nodes (node_of v.ts memory.sheet ∷ []) ch)
      (agenda v.behind (omega (arith, fn.0), fn.1)))

  want_none : children book (node_of (want (lit_of wanted) ∷ wanting.ts) memory.sheet) ≡ [] → Holds image book work (in_state run FAILED) (children book first ++ rest)
  want_none ch =
      with_hand memory (in_state run FAILED) refl refl refl (subst (HandOf memory (in_state run FAILED)) (child_nodes [] ch) failed)

  pub want_refused : (get_or work (wanted / 2) 0 ≡ layout.no_mark → ⊥) → (get_or work (wanted / 2) 0 ≡ wanted + 1 → ⊥) → Holds image book work (in_state run FAILED) (children book first ++ rest)
  want_refused m n = want_none (children_refused book memory.sheet wanting.ts (lit_of wanted) (reads_refused memory.area wanted atom m n))

  -- it is free
  module _ (free : get_or work (wanted / 2) 0 ≡ layout.no_mark) where
    unmarked : Unmarked memory.sheet (wanted / 2)
    unmarked = reads_free memory.area wanted atom free

    off : (on memory.sheet (opposite (lit_of wanted)) ≡ false) × (on memory.sheet (lit_of wanted) ≡ false)
    off = free_lit memory.sheet wanted unmarked

    number : get_or work (layout.literals + wanted) 0 ≡ memory.tab (layout.literals + wanted)
    number = memory.area.tabled (layout.literals + wanted) (omega arith) (omega (arith, small))

    meant : Says image book memory.tab wanted (get_or work (layout.literals + wanted) 0)
    meant = subst (Says image book memory.tab wanted) (sym number) (says image book memory.tab wanted memory.grounded known)

    opens : wanted % 2 ≡ 0 → book.abducibles ≤ wanted / 2
        → children book (node_of (want (lit_of wanted) ∷ wanting.ts) memory.sheet) ≡ by_ways wanting.ts (lit_of wanted ∷ memory.sheet) (map (λ (c : Clause). c.body) (clauses_for book (wanted / 2)))
    opens e d =
        subst (λ (l : Lit). children book (node_of (want l ∷ wanting.ts) memory.sheet) ≡ by_ways wanting.ts (l ∷ memory.sheet) (map (λ (c : Clause). c.body) (clauses_for book (wanted / 2)))) (sym (lit_even wanted e))
        (children_opens book memory.sheet wanting.ts (wanted / 2) d unmarked.0 unmarked.1)

    -- no clause reaches it
    pub want_fails : get_or work (layout.literals + wanted) 0 ≡ layout.fails → Holds image book work (in_state run FAILED) (children book first ++ rest)
    want_fails z = want_none (go meant)
      where
        go : Says image book memory.tab wanted (get_or work (layout.literals + wanted) 0) → children book (node_of (want (lit_of wanted) ∷ wanting.ts) memory.sheet) ≡ []
        go (assumes e p i) = absurd (omega (arith, i, z))
        go (excludes e p i) = absurd (omega (arith, i, z))
        go (proves e p c) = opens e p ∙ ap (by_ways wanting.ts (lit_of wanted ∷ memory.sheet)) (chain_none c z)
        go (denies e p d) = absurd ((denied_apart d).0 z)

    room : memory.marks < limits.atoms
    room = trail_room wanted small unmarked memory.trail

    pub want_markable : Markable work run wanted
    want_markable = record { literal = small; low = omega (arith, memory.marked); high = omega (arith, memory.marked, room); long = memory.area.long }

    -- the literal marked
    other : (j : ℕ) → layout.literals ≤ j → (j ≡ run.marked + layout.cell_width → ⊥) → get_or (marked_with work run wanted) j 0 ≡ get_or work j 0
    other j p q = get_or-set_other (set work (wanted / 2) (wanted + 1)) (run.marked + layout.cell_width) j wanted 0 q ∙ get_or-set_other work (wanted / 2) j (wanted + 1) 0 (λ z. omega (arith, z, atom))

    new_area : Tabled memory.tab (marked_with work run wanted) (lit_of wanted ∷ memory.sheet)
    new_area =
        tabled_same (length-set (set work (wanted / 2) (wanted + 1)) (run.marked + layout.cell_width) wanted)
        (λ j p q. get_or-set_other (set work (wanted / 2) (wanted + 1)) (run.marked + layout.cell_width) j wanted 0 (λ z. omega (arith, z, memory.marked)))
        (tabled_marked wanted atom unmarked memory.area)

    new_trail : Trail (marked_with work run wanted) (suc memory.marks) (lit_of wanted ∷ memory.sheet)
    new_trail =
        let written : entry_literal (marked_with work run wanted) memory.marks ≡ wanted =
        ap (λ (i : ℕ). get_or (marked_with work run wanted) i 0) (omega (arith, memory.marked))
        ∙ get_or-set_same (set work (wanted / 2) (wanted + 1)) (run.marked + layout.cell_width) wanted 0 (omega (arith, memory.marked, room, memory.area.long, length-set work (wanted / 2) (wanted + 1))) in
        marks wanted written small unmarked.0 unmarked.1
        (trail_same (λ j p. other (entry_at j + layout.cell_width) (omega arith) (λ z. omega (arith, z, memory.marked))) memory.trail)

    new_held : Held image book memory.tab (marked_with work run wanted) memory.height (suc memory.marks) memory.used (lit_of wanted ∷ memory.sheet) memory.due
    new_held =
        let most : memory.used ≤ memory.marks = held_used image book memory.tab memory.held in
        under
        (held_same image book memory.tab (λ j p q. other j (omega arith) (λ z. omega (arith, z, memory.marked, room)))
        (λ j p q. other j (omega arith) (λ z. omega (arith, z, memory.marked, most))) memory.held)

    new_behind : Leads image book memory.tab (marked_with work run wanted) memory.marks run.agenda wanting.ts
    new_behind = leads_same image book memory.tab (λ j p q. other j (omega arith) (λ z. omega (arith, z, memory.marked))) wanting.behind

    pub later_same : drop layout.end (marked_with work run wanted) ≡ drop layout.end work
    later_same =
        drop-set-lt layout.end (set work (wanted / 2) (wanted + 1)) (run.marked + layout.cell_width) wanted (omega (arith, memory.marked, room)) ∙ drop-set-lt layout.end work (wanted / 2) (wanted + 1) (omega (arith, atom))

    fines : Every (Fine book (memory.height + 1)) (children book (node_of (want (lit_of wanted) ∷ wanting.ts) memory.sheet))
    fines = fine_children book ordered memory.height 1 (want (lit_of wanted)) wanting.ts memory.sheet (held_free memory.sheet (lit_of wanted) off.1) wanting.is_fine

    -- over any memory with the literal marked
    marked_holds : (v : List ℕ) (q : Run) (ns : List Node) → Tabled memory.tab v (lit_of wanted ∷ memory.sheet) → Trail v (suc memory.marks) (lit_of wanted ∷ memory.sheet)
        → Held image book memory.tab v memory.height (suc memory.marks) memory.used (lit_of wanted ∷ memory.sheet) memory.due → q.set ≡ assumed book (lit_of wanted ∷ memory.sheet) → q.marked ≡ run.marked + layout.trail_width → q.top ≡ run.top
        → children book (node_of (want (lit_of wanted) ∷ wanting.ts) memory.sheet) ≡ ns
        → Hand image book memory.tab v memory.height (suc memory.marks) memory.used (lit_of wanted ∷ memory.sheet) memory.due q.task q.agenda q.state (ns ++ memory.due) → Holds image book v q (children book first ++ rest)
    marked_holds v q ns a t hd c k u e hand = record {
      tab = memory.tab;
      height = memory.height;
      marks = suc memory.marks;
      used = memory.used;
      sheet = lit_of wanted ∷ memory.sheet;
      due = memory.due;
      grounded = memory.grounded;
      area = a;
      trail = t;
      held = hd;
      chosen = c;
      marked = omega (arith, k, memory.marked);
      top = u ∙ memory.top;
      hand = subst (Hand image book memory.tab v memory.height (suc memory.marks) memory.used (lit_of wanted ∷ memory.sheet) memory.due q.task q.agenda q.state) (child_nodes ns e) hand;
    }

    one_child : (ts : List Task) → children book (node_of (want (lit_of wanted) ∷ wanting.ts) memory.sheet) ≡ node_of ts (lit_of wanted ∷ memory.sheet) ∷ []
        → Fine book memory.height (node_of ts (lit_of wanted ∷ memory.sheet))
    one_child ts e = let f = every_first (subst (Every (Fine book (memory.height + 1))) e fines) in (omega (arith, f.0), f.1)

    takes : wanted / 2 < book.abducibles → children book (node_of (want (lit_of wanted) ∷ wanting.ts) memory.sheet) ≡ node_of wanting.ts (lit_of wanted ∷ memory.sheet) ∷ []
    takes p = children_takes book memory.sheet wanting.ts (lit_of wanted) off.0 off.1 p

    behind_more : Leads image book memory.tab (marked_with work run wanted) (suc memory.marks) run.agenda wanting.ts
    behind_more = leads_more image book memory.tab (omega arith) new_behind

    -- an abducible joins the set
    even_assumed : get_or work (layout.literals + wanted) 0 ≡ layout.joins_set → (wanted % 2 ≡ 0) × (wanted / 2 < book.abducibles)
    even_assumed z = go meant
      where
        go : Says image book memory.tab wanted (get_or work (layout.literals + wanted) 0) → (wanted % 2 ≡ 0) × (wanted / 2 < book.abducibles)
        go (assumes e p i) = (e, p)
        go (excludes e p i) = absurd (omega (arith, i, z))
        go (proves e p c) = absurd ((chain_apart c).1 z)
        go (denies e p d) = absurd ((denied_apart d).1 z)

    set_joined : get_or work (layout.literals + wanted) 0 ≡ layout.joins_set → run.set + 2 ^ (wanted / 2) ≡ assumed book (lit_of wanted ∷ memory.sheet)
    set_joined z =
        let f = even_assumed z in
        ap (λ (n : ℕ). n + 2 ^ (wanted / 2)) memory.chosen ∙ sym (assumed_joined book memory.sheet wanted f.0 f.1 unmarked.0)

    pub set_fits : get_or work (layout.literals + wanted) 0 ≡ layout.joins_set → (wanted / 2 < limits.abducibles) × (run.set + 2 ^ (wanted / 2) < bits64)
    set_fits z =
        let few : book.abducibles ≤ limits.abducibles = (within image book memory.grounded.book).abducibles in
        (omega (arith, (even_assumed z).1), subst (λ (n : ℕ). n < bits64) (sym (set_joined z)) (assumed_fits book (lit_of wanted ∷ memory.sheet) few))

    pub put_assumed : get_or work (layout.literals + wanted) 0 ≡ layout.joins_set → Holds image book (marked_with work run wanted) (in_state (adding (raised run) (wanted / 2)) AGENDA) (children book first ++ rest)
    put_assumed z =
        let p : wanted / 2 < book.abducibles = (even_assumed z).1 in
        marked_holds (marked_with work run wanted) (in_state (adding (raised run) (wanted / 2)) AGENDA) (node_of wanting.ts (lit_of wanted ∷ memory.sheet) ∷ []) new_area new_trail new_held
        (set_joined z) refl refl (takes p) (agenda behind_more (one_child wanting.ts (takes p)))

    denial : wanted % 2 ≡ 1 → book.abducibles ≤ wanted / 2
        → children book (node_of (want (lit_of wanted) ∷ wanting.ts) memory.sheet) ≡ node_of (map break (clauses_for book (wanted / 2)) ++ wanting.ts) (lit_of wanted ∷ memory.sheet) ∷ []
    denial e d =
        subst (λ (l : Lit). children book (node_of (want l ∷ wanting.ts) memory.sheet) ≡ node_of (map break (clauses_for book (wanted / 2)) ++ wanting.ts) (l ∷ memory.sheet) ∷ []) (sym (lit_odd wanted e))
        (children_denies book memory.sheet wanting.ts (wanted / 2) d unmarked.0 unmarked.1)

    -- nothing more to do
    pub put_plain : get_or work (layout.literals + wanted) 0 ≡ layout.joins → Holds image book (marked_with work run wanted) (in_state (raised run) AGENDA) (children book first ++ rest)
    put_plain z = go (get_or work (layout.literals + wanted) 0) z meant
      where
        none : (n : ℕ) {ts : List Task} → n ≡ layout.joins → Denied image memory.tab n ts → ts ≡ []
        none n i undefined = refl
        none n i (broken (Records.record_at p q c k u)) = absurd (omega arith)

        go : (n : ℕ) → n ≡ layout.joins → Says image book memory.tab wanted n → Holds image book (marked_with work run wanted) (in_state (raised run) AGENDA) (children book first ++ rest)
        go n i (assumes e p k) = absurd (omega arith)
        go n i (excludes e p k) =
            marked_holds (marked_with work run wanted) (in_state (raised run) AGENDA) (node_of wanting.ts (lit_of wanted ∷ memory.sheet) ∷ []) new_area new_trail new_held
            (memory.chosen ∙ sym (assumed_negated book memory.sheet wanted e)) refl refl (takes p) (agenda behind_more (one_child wanting.ts (takes p)))
        go n i (proves e p c) = absurd ((chain_apart c).0 i)
        go n i (denies e p d) =
            let ch : children book (node_of (want (lit_of wanted) ∷ wanting.ts) memory.sheet) ≡ node_of wanting.ts (lit_of wanted ∷ memory.sheet) ∷ [] =
            denial e p ∙ ap (λ (l : List Task). node_of (l ++ wanting.ts) (lit_of wanted ∷ memory.sheet) ∷ []) (none n i d) in
            marked_holds (marked_with work run wanted) (in_state (raised run) AGENDA) (node_of wanting.ts (lit_of wanted ∷ memory.sheet) ∷ []) new_area new_trail new_held
            (memory.chosen ∙ sym (assumed_defined book memory.sheet wanted p)) refl refl ch (agenda behind_more (one_child wanting.ts ch))

    -- the agenda behind can be laid down
    pub want_layable : Layable (marked_with work run wanted) (raised run)
    want_layable =
        let sm = leads_small memory.grounded (trail_few memory.trail) wanting.behind in
        record { low = omega (arith, memory.marked); high = omega (arith, memory.marked, room); long = new_area.long; at = sm.0; end = sm.1; link = omega (arith, sm.2) }

    -- a list of two is not short
    not_short : Short ((lit_of wanted ∷ lit_of wanted ∷ []) ∷ []) → ⊥
    not_short k = let one : 2 ≤ 1 = every_first k in omega arith

    laid_down : (v : List ℕ) (l : ℕ) → LaidDown (marked_with work run wanted) (raised run) v l
        → Down image book memory.tab (marked_with work run wanted) v memory.height (suc memory.marks) memory.used (lit_of wanted ∷ memory.sheet) memory.due l wanting.ts
    laid_down v l d =
        let most : memory.used ≤ memory.marks = held_used image book memory.tab memory.held in
        let end : run.marked + layout.trail_width ≡ entry_at (suc memory.marks) = omega (arith, memory.marked) in
        lay_down (raised run) {lss = (lit_of wanted ∷ lit_of wanted ∷ []) ∷ []} v l not_short (omega (arith, room)) end new_area new_trail new_held (older most new_behind) d

    -- the clauses are to be broken
    pub put_denied : (v : List ℕ) (l : ℕ) → wanted % 2 ≡ 1 → (get_or work (layout.literals + wanted) 0 ≡ layout.joins → ⊥) → LaidDown (marked_with work run wanted) (raised run) v l
        → Holds image book v (placing (raised run) (record_agenda (get_or work (layout.literals + wanted) 0) l)) (children book first ++ rest)
    put_denied v l o n d = go meant
      where
        go : Says image book memory.tab wanted (get_or work (layout.literals + wanted) 0) → Holds image book v (placing (raised run) (record_agenda (get_or work (layout.literals + wanted) 0) l)) (children book first ++ rest)
        go (assumes e p i) = absurd (omega (arith, e, o))
        go (excludes e p i) = absurd (n i)
        go (proves e p c) = absurd (omega (arith, e, o))
        go (denies e p dn) =
            let dw = laid_down v l d in
            marked_holds v (placing (raised run) (record_agenda (get_or work (layout.literals + wanted) 0) l)) (node_of (map break (clauses_for book (wanted / 2)) ++ wanting.ts) (lit_of wanted ∷ memory.sheet) ∷ [])
            dw.area dw.trail dw.held (memory.chosen ∙ sym (assumed_defined book memory.sheet wanted p)) refl refl (denial e p)
            (agenda (breaking (get_or work (layout.literals + wanted) 0) n dn dw.tail) (one_child (map break (clauses_for book (wanted / 2)) ++ wanting.ts) (denial e p)))
          where
            breaking : (a : ℕ) {ts us : List Task} → (a ≡ layout.joins → ⊥) → Denied image memory.tab a ts → Tail image book memory.tab v (suc memory.marks) l us → Leads image book memory.tab v (suc memory.marks) (record_agenda a l) (ts ++ us)
            breaking a i undefined t = absurd (i refl)
            breaking a i (broken u) t = more (records refl u) t

    pub denied_later : (v : List ℕ) (l : ℕ) → LaidDown (marked_with work run wanted) (raised run) v l → drop layout.end v ≡ drop layout.end work
    denied_later v l d = (laid_down v l d).later ∙ later_same

    -- the clauses are its ways
    pub put_proved : wanted % 2 ≡ 0 → (get_or work (layout.literals + wanted) 0 ≡ layout.fails → ⊥) → (get_or work (layout.literals + wanted) 0 ≡ layout.joins_set → ⊥) → Holds image book (marked_with work run wanted) (giving (raised run) WAY (get_or work (layout.literals + wanted) 0)) (children book first ++ rest)
    put_proved o n t = go meant
      where
        go : Says image book memory.tab wanted (get_or work (layout.literals + wanted) 0) → Holds image book (marked_with work run wanted) (giving (raised run) WAY (get_or work (layout.literals + wanted) 0)) (children book first ++ rest)
        go (assumes e p i) = absurd (t i)
        go (excludes e p i) = absurd (omega (arith, e, o))
        go (denies e p d) = absurd (omega (arith, e, o))
        go (proves e p c) = ways (map (λ (c : Clause). c.body) (clauses_for book (wanted / 2))) c (opens e p) (subst (Every (Fine book (memory.height + 1))) (opens e p) fines)
          where
            ways : (lss : List (List Lit)) → Chain image memory.tab (get_or work (layout.literals + wanted) 0) lss
                → children book (node_of (want (lit_of wanted) ∷ wanting.ts) memory.sheet) ≡ by_ways wanting.ts (lit_of wanted ∷ memory.sheet) lss
                → Every (Fine book (memory.height + 1)) (by_ways wanting.ts (lit_of wanted ∷ memory.sheet) lss)
                → Holds image book (marked_with work run wanted) (giving (raised run) WAY (get_or work (layout.literals + wanted) 0)) (children book first ++ rest)
            ways [] c ch fs = absurd (n (chain_empty c))
            ways (ls ∷ lss) c ch fs =
                let most : memory.used ≤ memory.marks = held_used image book memory.tab memory.held in
                marked_holds (marked_with work run wanted) (giving (raised run) WAY (get_or work (layout.literals + wanted) 0)) (by_ways wanting.ts (lit_of wanted ∷ memory.sheet) (ls ∷ lss)) new_area new_trail new_held
                (memory.chosen ∙ sym (assumed_defined book memory.sheet wanted p)) refl refl ch
                (way c (older most new_behind) (λ z i. (omega (arith, (fs z i).0), (fs z i).1)))
