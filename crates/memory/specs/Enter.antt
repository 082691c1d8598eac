-- A list of literals comes before the agenda.
-- Assumes nothing.
use Rattle.std.specs.Prelude.{ℕ, zero, suc, ◌+◌, ◌*◌, ◌/◌, ◌%◌, ◌≤◌, ◌<◌, ◌≡◌, refl, List, [], ◌∷◌, ◌++◌, map, length, drop}
use Rattle.std.proofs.Common.{arith, sym, ap, subst, subst₂}
use Rattle.base.specs.Lists.{every_first}
use Rattle.image.specs.paper.Book.{Lit, Book}
use Rattle.image.specs.paper.Decode.{lit_of}
use Rattle.image.specs.Shown.{lits_at}
use Rattle.searching.specs.paper.Rules.{Task, want, Node}
use Rattle.area.specs.Ground.{Listed, single, none, part}
use Rattle.area.specs.Area as layout
use Rattle.image.specs.paper.Faults.{limits}
use Rattle.memory.specs.declared.run.Run.{Run}
use Rattle.memory.specs.Places.{part_agenda}
use Rattle.memory.specs.States.{TASK, AGENDA, LIST}
use Rattle.memory.specs.Machine.{node_of, lits, more, Short, Free, Fine, literal, agenda, list, Holds, HandIn, in_hand, with_hand}
use Rattle.memory.specs.Marks.{trail_few}
use Rattle.memory.specs.Pieces.{in_state, placing, Layable, LaidDown}
use Rattle.memory.specs.Agendas.{free_small, free_leads, lay_down}
use Rattle.memory.specs.Agreed.{Moved, StandingIn, Moves}

length_lits_at : (image : List ℕ) (at n : ℕ) → length (lits_at image at n) ≡ n
unfolding lits_at
length_lits_at image at zero = refl
length_lits_at image at (suc n) = ap suc (length_lits_at image (at + 2) n)

module _ {image : List ℕ} {book : Book} {work : List ℕ} {run : Run} {all : List Node} (memory : Holds image book work run all) (st : run.state ≡ LIST) where
  pub record ListAhead : Type 0 where
    pub ts : List Task
    pub ls : List Lit
    pub listed : Listed image memory.tab run.task ls
    pub free : Free image book memory.tab work memory.marks memory.used run.agenda ts (ls ∷ [])
    pub is_fine : Fine book memory.height (node_of (map want ls ++ ts) memory.sheet)
    pub is : all ≡ node_of (map want ls ++ ts) memory.sheet ∷ memory.due

  list_ahead : ListAhead
  list_ahead = go (in_hand memory st) refl
    where
      go : {xs : List Node} → HandIn memory LIST run.task run.agenda xs → all ≡ xs → ListAhead
      go (list {ts} {ls} l a f) i = record { ts = ts; ls = ls; listed = l; free = a; is_fine = f; is = i }

  pub enter_layable : Layable work run
  enter_layable =
      let v = list_ahead in
      let few : memory.marks ≤ limits.atoms = trail_few memory.trail in
      let sm = free_small memory.grounded few v.free in
      record { low = omega (arith, memory.marked); high = omega (arith, memory.marked); long = memory.area.long; at = sm.0; end = sm.1; link = omega (arith, sm.2) }

  pub enter_literal : run.task < layout.literal_numbers → Holds image book work (in_state run TASK) all
  enter_literal l = go run.task list_ahead.ls refl list_ahead.listed list_ahead.free list_ahead.is_fine list_ahead.is
    where
      go : (x : ℕ) (ls : List Lit) {ts : List Task} → run.task ≡ x → Listed image memory.tab x ls → Free image book memory.tab work memory.marks memory.used run.agenda ts (ls ∷ [])
          → Fine book memory.height (node_of (map want ls ++ ts) memory.sheet) → all ≡ node_of (map want ls ++ ts) memory.sheet ∷ memory.due
          → Holds image book work (in_state run TASK) all
      go x ls {ts} e (single q) a f i =
          with_hand memory (in_state run TASK) refl refl refl
          (subst (HandIn memory TASK run.task run.agenda) (sym i)
          (subst (λ (n : ℕ). HandIn memory TASK run.task run.agenda (node_of (want (lit_of n) ∷ ts) memory.sheet ∷ memory.due)) e
          (literal l (free_leads image book memory.tab a) (subst (λ (n : ℕ). Fine book memory.height (node_of (want (lit_of n) ∷ ts) memory.sheet)) (sym e) f))))
      go x ls e none a f i = absurd (omega arith)
      go x ls e (part p q z) a f i = absurd (omega arith)

  pub enter_none : run.task ≡ layout.no_list → Holds image book work (in_state run AGENDA) all
  enter_none n = go run.task list_ahead.ls n list_ahead.listed list_ahead.free list_ahead.is_fine list_ahead.is
    where
      go : (x : ℕ) (ls : List Lit) {ts : List Task} → x ≡ layout.no_list → Listed image memory.tab x ls → Free image book memory.tab work memory.marks memory.used run.agenda ts (ls ∷ [])
          → Fine book memory.height (node_of (map want ls ++ ts) memory.sheet) → all ≡ node_of (map want ls ++ ts) memory.sheet ∷ memory.due
          → Holds image book work (in_state run AGENDA) all
      go x ls e (single q) a f i = absurd (omega arith)
      go x ls {ts} e none a f i =
          with_hand memory (in_state run AGENDA) refl refl refl (rw i (agenda (free_leads image book memory.tab a) f))
      go x ls e (part p q z) a f i = absurd (omega arith)

  pub record Entered (v : List ℕ) (q : Run) : Type 0 where
    pub holds : Holds image book v q all
    pub later : drop layout.end v ≡ drop layout.end work

  pub enter_part : (v : List ℕ) (l : ℕ) → layout.literal_numbers ≤ run.task → (run.task ≡ layout.no_list → ⊥) → LaidDown work run v l
      → Entered v (placing run (part_agenda run.task l))
  enter_part v l n o d = go run.task list_ahead.ls n o list_ahead.listed list_ahead.free list_ahead.is_fine list_ahead.is
    where
      go : (x : ℕ) (ls : List Lit) {ts : List Task} → layout.literal_numbers ≤ x → (x ≡ layout.no_list → ⊥) → Listed image memory.tab x ls
          → Free image book memory.tab work memory.marks memory.used run.agenda ts (ls ∷ [])
          → Fine book memory.height (node_of (map want ls ++ ts) memory.sheet) → all ≡ node_of (map want ls ++ ts) memory.sheet ∷ memory.due
          → Entered v (placing run (part_agenda x l))
      go x ls n o (single q) a f i = absurd (omega arith)
      go x ls n o none a f i = absurd (o refl)
      go x ls {ts} n o (part {from = from} {n = zero} p q z) a f i = absurd (omega arith)
      go x ls {ts} n o (part {from = from} {n = suc c} p q z) a f i =
          let long : length (lits_at image from (suc c)) ≡ suc c = length_lits_at image from (suc c) in
          let many : Short (lits_at image from (suc c) ∷ []) → ⊥ = λ k. let one : length (lits_at image from (suc c)) ≤ 1 = every_first k in omega arith in
          let dn = lay_down run v l many (trail_few memory.trail) memory.marked memory.area memory.trail memory.held a d in
          let start : (from + layout.places * suc c) % layout.places ≡ from = omega arith in
          let count : (from + layout.places * suc c) / layout.places ≡ suc c = omega arith in
          let end : (from + layout.places * suc c) % layout.places + 2 * ((from + layout.places * suc c) / layout.places) ≡ from + 2 * suc c = omega arith in
          record {
            holds =
                subst₂ (λ (x y : ℕ). Holds image book v (placing run (record { at = x; end = y; link = l })) all) (sym start) (sym end)
                (record {
                  tab = memory.tab;
                  height = memory.height;
                  marks = memory.marks;
                  used = memory.used;
                  sheet = memory.sheet;
                  due = memory.due;
                  grounded = memory.grounded;
                  area = dn.area;
                  trail = dn.trail;
                  held = dn.held;
                  chosen = memory.chosen;
                  marked = memory.marked;
                  top = memory.top;
                  hand = rw i (agenda (more (lits c refl z) dn.tail) f);
                });
            later = dn.later;
          }

module _ (work : List ℕ) (run : Run) (pre : StandingIn work run LIST) where
  at_list : run.state ≡ LIST
  at_list = pre.1.state

  pub list_layable : Layable work run
  list_layable = enter_layable pre.1.holds at_list

  pub entered_literal : (q : Run) → run.task < layout.literal_numbers → q ≡ in_state run TASK → Moves work run work q AGENDA
  entered_literal q l e image =
      subst (λ (p : Run). Moved image work run work p AGENDA) (sym e)
      (record { holds = λ b all h. enter_literal h at_list l; state = omega arith; nodes = refl; count = refl; later = refl })

  pub entered_none : (q : Run) → run.task ≡ layout.no_list → q ≡ in_state run AGENDA → Moves work run work q AGENDA
  entered_none q l e image =
      subst (λ (p : Run). Moved image work run work p AGENDA) (sym e)
      (record { holds = λ b all h. enter_none h at_list l; state = omega arith; nodes = refl; count = refl; later = refl })

  pub entered_part : (v : List ℕ) (l : ℕ) (q : Run) → layout.literal_numbers ≤ run.task → (run.task ≡ layout.no_list → ⊥) → LaidDown work run v l
      → q ≡ placing run (part_agenda run.task l) → Moves work run v q AGENDA
  entered_part v l q n o d e image =
      subst (λ (p : Run). Moved image work run v p AGENDA) (sym e)
      (record {
        holds = λ b all h. (enter_part h at_list v l n o d).holds;
        state = omega arith;
        nodes = refl;
        count = refl;
        later = (enter_part pre.1.holds at_list v l n o d).later;
      })
