-- A way is taken: the first of a chain, with a frame where there are more.
-- Assumes nothing.
use Rattle.std.specs.Prelude.{ℕ, suc, ◌+◌, ◌*◌, ◌/◌, ◌%◌, ◌≤◌, ◌<◌, ◌≡◌, refl, List, [], ◌∷◌, ◌++◌, map, length, get_or, set, drop, take}
use Rattle.std.proofs.Common.{arith, le_refl, sym, ap, ap₂, subst, subst₂, ◌∙◌, length-append, drop-set-lt, get_or-append-add, get_or-set_other, length-take-le}
use Rattle.std.proofs.Math.ListN.{get_or-append}
use Rattle.std.proofs.lemmas.List.Edits.{sets, sets-eq}
use Rattle.std.proofs.Math.Seq.{length-sets}
use Rattle.base.specs.paper.Lists.{Every}
use Rattle.base.specs.Lists.{every_none, every_more, every_first, every_rest}
use Rattle.image.specs.paper.Book.{Lit, Book}
use Rattle.searching.specs.paper.Rules.{Task, want, Node}
use Rattle.area.specs.Ground.{Listed, Chain}
use Rattle.area.specs.Area as layout
use Rattle.image.specs.paper.Faults.{limits}
use Rattle.memory.specs.Places.{entry_at, bits32, frame, frame_agenda}
use Rattle.memory.specs.declared.run.Run.{Run}
use Rattle.memory.specs.States.{LIST, WAY}
use Rattle.memory.specs.Machine.{node_of, Same, Trail, Free, older, short, empty, Frame, Fine, by_ways, Held, proving, picking, list, way, Holds, HandIn, in_hand, with_hand}
use Rattle.memory.specs.Memory.{trail_same, agenda_is, tail_same, leads_same, held_used, held_same, leads_at, free_at}
use Rattle.memory.specs.Sheet.{tabled_same}
use Rattle.memory.specs.Marks.{trail_few}
use Rattle.memory.specs.Pieces.{giving, pushed, risen, Pushable, Pushed}
use Rattle.memory.specs.Chains.{Ahead, chain_ahead, chain_none, chain_empty, fine_less}
use Rattle.memory.specs.Agendas.{free_small}
use Rattle.memory.specs.Agreed.{Moved, StandingIn, Moves}

-- ---- numbers written one after the other

sets_below : (vs work : List ℕ) (i j : ℕ) → j < i → get_or (sets work i vs) j 0 ≡ get_or work j 0
sets_below [] work i j h = refl
sets_below (a ∷ vs) work i j h = sets_below vs (set work i a) (suc i) j (omega arith) ∙ get_or-set_other work i j a 0 (λ e. omega (arith, e))

sets_word : (vs work : List ℕ) (i n : ℕ) → i + length vs ≤ length work → n < length vs → get_or (sets work i vs) (i + n) 0 ≡ get_or vs n 0
sets_word vs work i n h q =
    let front : length (take i work) ≡ i = length-take-le i work (omega arith) in
    ap (λ (l : List ℕ). get_or l (i + n) 0) (sets-eq vs work i h)
    ∙ get_or-append (take i work ++ vs) (drop (i + length vs) work) 0 (i + n) (omega (arith, length-append (take i work) vs))
    ∙ ap (λ (m : ℕ). get_or (take i work ++ vs) (m + n) 0) (sym front)
    ∙ get_or-append-add (take i work) vs n 0

sets_later : (vs work : List ℕ) (i n : ℕ) → i + length vs ≤ n → drop n (sets work i vs) ≡ drop n work
sets_later [] work i n h = refl
sets_later (a ∷ vs) work i n h = sets_later vs (set work i a) (suc i) n (omega arith) ∙ drop-set-lt n work i a (omega arith)

pub seven : (work : List ℕ) (i i₁ i₂ i₃ i₄ i₅ i₆ a b c d e f g : ℕ)
    → i₁ ≡ suc i → i₂ ≡ suc (suc i) → i₃ ≡ suc (suc (suc i)) → i₄ ≡ suc (suc (suc (suc i))) → i₅ ≡ suc (suc (suc (suc (suc i))))
    → i₆ ≡ suc (suc (suc (suc (suc (suc i)))))
    → set (set (set (set (set (set (set work i a) i₁ b) i₂ c) i₃ d) i₄ e) i₅ f) i₆ g ≡ sets work i (a ∷ b ∷ c ∷ d ∷ e ∷ f ∷ g ∷ [])
seven work i i₁ i₂ i₃ i₄ i₅ i₆ a b c d e f g p₁ p₂ p₃ p₄ p₅ p₆ = rw (p₁, p₂, p₃, p₄, p₅, p₆)

module _ (work : List ℕ) (run : Run) (more : ℕ) where
  pushed_length : length (pushed work run more) ≡ length work
  unfolding pushed
  pushed_length = length-sets work run.top (run.marked ∷ run.set % bits32 ∷ run.set / bits32 ∷ run.agenda.at ∷ run.agenda.end ∷ run.agenda.link ∷ more ∷ [])

  pub pushed_below : Same work (pushed work run more) 0 run.top
  unfolding pushed
  pushed_below j p q = sets_below (run.marked ∷ run.set % bits32 ∷ run.set / bits32 ∷ run.agenda.at ∷ run.agenda.end ∷ run.agenda.link ∷ more ∷ []) work run.top j q

  pushed_word : (n : ℕ) → run.top + layout.frame_width ≤ length work → n < layout.frame_width
      → get_or (pushed work run more) (run.top + n) 0 ≡ get_or (run.marked ∷ run.set % bits32 ∷ run.set / bits32 ∷ run.agenda.at ∷ run.agenda.end ∷ run.agenda.link ∷ more ∷ []) n 0
  unfolding pushed
  pushed_word n h q = sets_word (run.marked ∷ run.set % bits32 ∷ run.set / bits32 ∷ run.agenda.at ∷ run.agenda.end ∷ run.agenda.link ∷ more ∷ []) work run.top n h q

  pushed_later : run.top + layout.frame_width ≤ layout.end → drop layout.end (pushed work run more) ≡ drop layout.end work
  unfolding pushed
  pushed_later h = sets_later (run.marked ∷ run.set % bits32 ∷ run.set / bits32 ∷ run.agenda.at ∷ run.agenda.end ∷ run.agenda.link ∷ more ∷ []) work run.top layout.end h

-- ---- the first way is taken

module _ {image : List ℕ} {book : Book} {work : List ℕ} {run : Run} {all : List Node} (memory : Holds image book work run all) (st : run.state ≡ WAY) where
  record Taking : Type 0 where
    ts : List Task
    ls : List Lit
    lss : List (List Lit)
    ahead : Ahead image memory.tab run.task ls lss
    free : Free image book memory.tab work memory.marks memory.used run.agenda ts (ls ∷ lss)
    fines : Every (Fine book (suc memory.height)) (by_ways ts memory.sheet (ls ∷ lss))
    is : all ≡ by_ways ts memory.sheet (ls ∷ lss) ++ memory.due

  taking : Taking
  taking = go (in_hand memory st) refl
    where
      go : {xs : List Node} → HandIn memory WAY run.task run.agenda xs → all ≡ xs → Taking
      go (way {ts} {ls} {lss} c a f) i = record { ts = ts; ls = ls; lss = lss; ahead = chain_ahead c; free = a; fines = f; is = i }

  pub way_places : (run.task + 1 < layout.trail) × (layout.Long work)
  way_places = (taking.ahead.high, memory.area.long)

  pub way_pushable : Pushable work run
  way_pushable =
      let v = taking in
      let few : memory.marks ≤ limits.atoms = trail_few memory.trail in
      let sm = free_small memory.grounded few v.free in
      let deep : suc memory.height ≤ layout.most_frames = omega (arith, (every_first v.fines).0) in
      record {
        layable = record { low = omega (arith, memory.marked); high = omega (arith, memory.marked); long = memory.area.long; at = sm.0; end = sm.1; link = omega (arith, sm.2) };
        above = omega (arith, memory.top);
        room = omega (arith, memory.top);
      }

  task_word : get_or work run.task 0 ≡ memory.tab run.task
  task_word = let v = taking in memory.area.tabled run.task (omega (arith, v.ahead.low)) (omega (arith, v.ahead.high))

  more_word : get_or work (run.task + 1) 0 ≡ memory.tab (run.task + 1)
  more_word = let v = taking in memory.area.tabled (run.task + 1) (omega (arith, v.ahead.low)) v.ahead.high

  -- one way only
  pub way_single : get_or work (run.task + 1) 0 ≡ layout.no_link → Holds image book work (giving run LIST (get_or work run.task 0)) all
  way_single z =
      let v = taking in
      let none : v.lss ≡ [] = chain_none v.ahead.others (sym more_word ∙ z) in
      let a : Free image book memory.tab work memory.marks memory.used run.agenda v.ts (v.ls ∷ []) =
      subst (λ (l : List (List Lit)). Free image book memory.tab work memory.marks memory.used run.agenda v.ts (v.ls ∷ l)) none v.free in
      with_hand memory (giving run LIST (get_or work run.task 0)) refl refl refl
      (subst (HandIn memory LIST (get_or work run.task 0) run.agenda)
      (sym (v.is ∙ ap (λ (l : List (List Lit)). by_ways v.ts memory.sheet (v.ls ∷ l) ++ memory.due) none))
      (list (subst (λ (n : ℕ). Listed image memory.tab n v.ls) (sym task_word) v.ahead.first) a (fine_less book (node_of (map want v.ls ++ v.ts) memory.sheet) memory.height (every_first v.fines))))

  -- and a frame for the others
  pub way_pushed : (get_or work (run.task + 1) 0 ≡ layout.no_link → ⊥)
      → Holds image book (pushed work run (get_or work (run.task + 1) 0)) (giving (risen run) LIST (get_or work run.task 0)) all
  way_pushed nz = go taking.lss memory.marks memory.used taking.ahead.others memory.trail memory.held memory.marked taking.free taking.fines taking.is
    where
      room : run.top + layout.frame_width ≤ length work
      room = omega (arith, way_pushable.room, memory.area.long)

      same : Same work (pushed work run (get_or work (run.task + 1) 0)) 0 layout.frames
      same j p q = pushed_below work run (get_or work (run.task + 1) 0) j p (omega (arith, way_pushable.above))

      word : (n : ℕ) → n < layout.frame_width → frame (pushed work run (get_or work (run.task + 1) 0)) memory.height n
          ≡ get_or (run.marked ∷ run.set % bits32 ∷ run.set / bits32 ∷ run.agenda.at ∷ run.agenda.end ∷ run.agenda.link ∷ get_or work (run.task + 1) 0 ∷ []) n 0
      word n q =
          ap (λ (x : ℕ). get_or (pushed work run (get_or work (run.task + 1) 0)) x 0) (omega (arith, memory.top)) ∙ pushed_word work run (get_or work (run.task + 1) 0) n room q

      as_pushed : frame_agenda (pushed work run (get_or work (run.task + 1) 0)) memory.height ≡ run.agenda
      as_pushed = agenda_is (word 3 (omega arith)) (word 4 (omega arith)) (word 5 (omega arith))

      new : {m : ℕ} {lss : List (List Lit)} → run.marked ≡ entry_at m → Chain image memory.tab (memory.tab (run.task + 1)) lss
          → Frame image book memory.tab (pushed work run (get_or work (run.task + 1) 0)) memory.height m memory.sheet lss
      new {m} {lss} mk c =
          let halves : run.set % bits32 + bits32 * (run.set / bits32) ≡ run.set = omega arith in
          record {
            marked = word 0 (omega arith) ∙ mk;
            set = ap₂ (λ (x y : ℕ). x + bits32 * y) (word 1 (omega arith)) (word 2 (omega arith)) ∙ halves ∙ memory.chosen;
            ways = subst (λ (n : ℕ). Chain image memory.tab n lss) (sym (word 6 (omega arith) ∙ more_word)) c;
          }

      built : (m used : ℕ) (xs : List Node) → Trail work m memory.sheet → run.marked ≡ entry_at m
          → Held image book memory.tab (pushed work run (get_or work (run.task + 1) 0)) (suc memory.height) m used memory.sheet xs
          → Free image book memory.tab (pushed work run (get_or work (run.task + 1) 0)) m used run.agenda taking.ts (taking.ls ∷ [])
          → all ≡ node_of (map want taking.ls ++ taking.ts) memory.sheet ∷ xs
          → Holds image book (pushed work run (get_or work (run.task + 1) 0)) (giving (risen run) LIST (get_or work run.task 0)) all
      built m used xs t mk hd fr i = record {
        tab = memory.tab;
        height = suc memory.height;
        marks = m;
        used = used;
        sheet = memory.sheet;
        due = xs;
        grounded = memory.grounded;
        area = tabled_same (pushed_length work run (get_or work (run.task + 1) 0)) (λ j p q. same j p (omega arith)) memory.area;
        trail = trail_same (λ j p. same (entry_at j + layout.cell_width) (omega arith) (omega (arith, trail_few t))) t;
        held = hd;
        chosen = memory.chosen;
        marked = mk;
        top = omega (arith, memory.top);
        hand =
            rw i
            (list (subst (λ (n : ℕ). Listed image memory.tab n taking.ls) (sym task_word) taking.ahead.first) fr (every_first taking.fines));
      }

      go : (lss : List (List Lit)) (m used : ℕ) → Chain image memory.tab (memory.tab (run.task + 1)) lss → Trail work m memory.sheet → Held image book memory.tab work memory.height m used memory.sheet memory.due
          → run.marked ≡ entry_at m → Free image book memory.tab work m used run.agenda taking.ts (taking.ls ∷ lss)
          → Every (Fine book (suc memory.height)) (by_ways taking.ts memory.sheet (taking.ls ∷ lss)) → all ≡ by_ways taking.ts memory.sheet (taking.ls ∷ lss) ++ memory.due
          → Holds image book (pushed work run (get_or work (run.task + 1) 0)) (giving (risen run) LIST (get_or work run.task 0)) all
      go [] m used c t hd mk fr fs i = absurd (nz (more_word ∙ chain_empty c))
      go (ls ∷ lss) m used c t hd mk (older {m = n} u a) fs i =
          let few : suc n ≤ limits.atoms = trail_few t in
          let a' = leads_same image book memory.tab (λ j p q. same j (omega arith) (omega arith)) a in
          built (suc n) n (by_ways taking.ts memory.sheet (ls ∷ lss) ++ memory.due) t mk
          (proving (new mk c) (leads_at image book memory.tab as_pushed a') (every_rest fs) u
          (held_same image book memory.tab (λ j p q. pushed_below work run (get_or work (run.task + 1) 0) j (omega arith) (omega (arith, memory.top))) (λ j p q. same j (omega arith) (omega arith)) hd))
          (older (le_refl n) a') i
      go (ls ∷ lss) m used c t hd mk (short a k) fs i =
          let few : m ≤ limits.atoms = trail_few t in
          let under : used ≤ m = held_used image book memory.tab hd in
          let a' = leads_same image book memory.tab (λ j p q. same j (omega arith) (omega arith)) a in
          built m m (by_ways taking.ts memory.sheet (ls ∷ lss) ++ memory.due) t mk
          (picking (new mk c) (free_at image book memory.tab as_pushed (short a' (every_rest k))) (every_rest fs)
          (held_same image book memory.tab (λ j p q. pushed_below work run (get_or work (run.task + 1) 0) j (omega arith) (omega (arith, memory.top))) (λ j p q. same j (omega arith) (omega arith)) hd))
          (short a' (every_more (every_first k) (every_none (λ (l : List Lit). length l ≤ 1)))) i
      go (ls ∷ lss) m used c t hd mk (empty e l x) fs i =
          let few : m ≤ limits.atoms = trail_few t in
          let under : used ≤ m = held_used image book memory.tab hd in
          let x' = tail_same image book memory.tab (λ j p q. same j (omega arith) (omega arith)) x in
          built m m (by_ways taking.ts memory.sheet (ls ∷ lss) ++ memory.due) t mk
          (picking (new mk c) (free_at image book memory.tab as_pushed (empty e l x')) (every_rest fs)
          (held_same image book memory.tab (λ j p q. pushed_below work run (get_or work (run.task + 1) 0) j (omega arith) (omega (arith, memory.top))) (λ j p q. same j (omega arith) (omega arith)) hd))
          (empty e l x') i

module _ (work : List ℕ) (run : Run) (pre : StandingIn work run WAY) where
  at_way : run.state ≡ WAY
  at_way = pre.1.state

  pub chain_places : (run.task + 1 < layout.trail) × (layout.Long work)
  chain_places = way_places pre.1.holds at_way

  pub chain_pushable : Pushable work run
  chain_pushable = way_pushable pre.1.holds at_way

  pub chosen_single : (q : Run) (more x : ℕ) → more ≡ get_or work (run.task + 1) 0 → x ≡ get_or work run.task 0 → more ≡ layout.no_link → q ≡ giving run LIST x → Moves work run work q LIST
  chosen_single q more x i j z e image =
      subst (λ (p : Run). Moved image work run work p LIST) (sym (e ∙ ap (λ (y : ℕ). giving run LIST y) j))
      (record { holds = λ b all h. way_single h at_way (sym i ∙ z); state = omega arith; nodes = refl; count = refl; later = refl })

  pub chosen_pushed : (v : List ℕ) (p q : Run) (more x : ℕ) → more ≡ get_or work (run.task + 1) 0 → x ≡ get_or work run.task 0 → (more ≡ layout.no_link → ⊥) → Pushed work run more v p → q ≡ giving p LIST x
      → Moves work run v q LIST
  chosen_pushed v p q more x i j nz d e image =
      let is : v ≡ pushed work run (get_or work (run.task + 1) 0) = d.area ∙ ap (pushed work run) i in
      let becomes : q ≡ giving (risen run) LIST (get_or work run.task 0) = e ∙ ap₂ (λ (o : Run) (y : ℕ). giving o LIST y) d.is j in
      subst₂ (λ (u : List ℕ) (o : Run). Moved image work run u o LIST) (sym is) (sym becomes)
      (record {
        holds = λ b all h. way_pushed h at_way (λ z. nz (i ∙ z));
        state = omega arith;
        nodes = refl;
        count = refl;
        later = pushed_later work run (get_or work (run.task + 1) 0) chain_pushable.room;
      })
