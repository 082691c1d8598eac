-- After a failure: the marks since the newest frame are taken off, and it gives its next way.
-- Assumes nothing.
use Prim.Native.Nat.{ℕ, zero, suc, ◌+◌, ◌-◌, ◌*◌, ◌/◌, ◌≤◌, ◌<◌}
use native.Mathlib.Omega.{arith}
use Rattle.std.proofs.Common.{le_refl, sym, ap₂, subst₂, ◌∙◌, inl, inr, ltb-true, ltb-false, length-set, get_or-set_same}
use Rattle.std.specs.Prelude.{◌≡◌, refl, ◌⊎◌, ltb, length, set, drop}
use Rattle.std.proofs.Math.Path.{ap, subst}
use Rattle.std.proofs.Math.Logic.{⊎_elim}
use mathlib.Core.List.{List, [], ◌∷◌, ◌++◌, map}
use Rattle.std.proofs.Math.ListN.{get_or}
use Rattle.std.proofs.Math.Seq.{get_or-set_other, drop-set-lt}
use Rattle.base.specs.Bools.{decide}
use Rattle.base.specs.paper.Lists.{Every}
use Rattle.base.specs.Lists.{every_none, every_more, every_first, every_rest}
use Rattle.image.specs.paper.Book.{Lit, Book}
use Rattle.searching.specs.paper.Rules.{Task, want, Node, assumed}
use Rattle.area.specs.Ground.{Listed, Chain, Ground, Tabled}
use Rattle.area.specs.Area as layout
use Rattle.image.specs.paper.Faults.{limits}
use Rattle.memory.specs.Places.{entry_at, frame_at, way_at, bits32, frame, entry_literal, frame_marks, frame_set, frame_agenda, frame_way}
use Rattle.memory.specs.declared.run.Agenda.{Agenda}
use Rattle.memory.specs.declared.run.Run.{Run}
use Rattle.memory.specs.States.{OVER, LIST, FAILED}
use Rattle.memory.specs.Machine.{node_of, Same, Trail, marks, Leads, Free, older, short, empty, Frame, Fine, by_ways, Held, bottom, under, proving, picking, list, failed, Holds, HandIn, in_hand}
use Rattle.memory.specs.Memory.{trail_same, same_agenda, tail_same, leads_same, held_used, held_same, leads_at, free_at}
use Rattle.memory.specs.Sheet.{tabled_undone, tabled_same}
use Rattle.memory.specs.Marks.{trail_few}
use Rattle.memory.specs.Pieces.{in_state, giving, undone, Undoable, restoring, lowered}
use Rattle.memory.specs.Chains.{chain_ahead, chain_none, chain_empty, fine_less}
use Rattle.memory.specs.Agreed.{Moved, StandingIn, Backed, back_to, over}

-- a frame on top of the trail's end
data Top (image : List ℕ) (book : Book) (tab : ℕ → ℕ) (work : List ℕ) (level : ℕ) : ℕ → List Lit → List Node → Type 0 where
  proved : {m used : ℕ} {sheet : List Lit} {due : List Node} {rest : List Task} {ls : List Lit} {lss : List (List Lit)}
      → Frame image book tab work level (suc m) sheet (ls ∷ lss) → Leads image book tab work m (frame_agenda work level) rest
      → Every (Fine book (suc level)) (by_ways rest sheet (ls ∷ lss))
      → used ≤ m → Held image book tab work level (suc m) used sheet due → Top image book tab work level (suc m) sheet (by_ways rest sheet (ls ∷ lss) ++ due)
  picked : {m used : ℕ} {sheet : List Lit} {due : List Node} {rest : List Task} {ls : List Lit} {lss : List (List Lit)}
      → Frame image book tab work level m sheet (ls ∷ lss) → Free image book tab work m m (frame_agenda work level) rest (ls ∷ lss)
      → Every (Fine book (suc level)) (by_ways rest sheet (ls ∷ lss))
      → Held image book tab work level m used sheet due → Top image book tab work level m sheet (by_ways rest sheet (ls ∷ lss) ++ due)

-- n marks off, the frame is on top; `bare` is the area with some marks off already
record Peeled (image : List ℕ) (book : Book) (tab : ℕ → ℕ) (work : List ℕ) (level : ℕ) (due : List Node) (bare : List ℕ) (m : ℕ) : Type 0 where
  base : ℕ
  n : ℕ
  is : m ≡ base + n
  sheet : List Lit
  top : Top image book tab work level base sheet due
  trail : Trail (undone bare (entry_at base) n) base sheet
  area : Tabled tab (undone bare (entry_at base) n) sheet
  same : Same work (undone bare (entry_at base) n) layout.literals layout.end
  later : drop layout.end (undone bare (entry_at base) n) ≡ drop layout.end bare
  literals : (j : ℕ) → j < n → get_or bare (entry_at base + layout.trail_width * j + layout.cell_width) 0 < layout.literal_numbers

last_or_before : (j n : ℕ) → j < suc n → (j < n) ⊎ (j ≡ n)
last_or_before j n h =
    ⊎_elim (λ e. inl (ltb-true j n e)) (λ e. inr (let up : n ≤ j = ltb-false j n e in omega arith)) (decide (ltb j n))

module _ {image : List ℕ} {book : Book} {tab : ℕ → ℕ} {work : List ℕ} {level : ℕ} where
  -- one mark more
  peel_more : {due : List Node} (bare : List ℕ) (y m : ℕ) → entry_literal bare m ≡ y → y < layout.literal_numbers → Peeled image book tab work level due (set bare (y / 2) 0) m → Peeled image book tab work level due bare (suc m)
  unfolding undone
  peel_more bare y m e l x = record {
    base = x.base;
    n = suc x.n;
    is = omega (arith, x.is);
    sheet = x.sheet;
    top = x.top;
    trail = subst (λ (i : List ℕ). Trail i x.base x.sheet) next x.trail;
    area = subst (λ (i : List ℕ). Tabled tab i x.sheet) next x.area;
    same = subst (λ (i : List ℕ). Same work i layout.literals layout.end) next x.same;
    later = ap (drop layout.end) (sym next) ∙ x.later ∙ drop-set-lt layout.end bare (y / 2) 0 (omega arith);
    literals = λ j g. ⊎_elim (λ h. before j h) (λ h. newest j h) (last_or_before j x.n g);
  }
    where
      at : entry_at x.base + layout.trail_width * x.n + layout.cell_width ≡ entry_at m + layout.cell_width
      at = omega (arith, x.is)

      read : get_or bare (entry_at x.base + layout.trail_width * x.n + layout.cell_width) 0 ≡ y
      read = ap (λ (i : ℕ). get_or bare i 0) at ∙ e

      next : undone (set bare (y / 2) 0) (entry_at x.base) x.n ≡ undone bare (entry_at x.base) (suc x.n)
      next = ap (λ (i : ℕ). undone (set bare (i / 2) 0) (entry_at x.base) x.n) (sym read)

      before : (j : ℕ) → j < x.n → get_or bare (entry_at x.base + layout.trail_width * j + layout.cell_width) 0 < layout.literal_numbers
      before j h =
          subst (λ (i : ℕ). i < layout.literal_numbers) (get_or-set_other bare (y / 2) (entry_at x.base + layout.trail_width * j + layout.cell_width) 0 0 (λ z. omega (arith, z))) (x.literals j h)

      newest : (j : ℕ) → j ≡ x.n → get_or bare (entry_at x.base + layout.trail_width * j + layout.cell_width) 0 < layout.literal_numbers
      newest j h = subst (λ (i : ℕ). get_or bare (entry_at x.base + layout.trail_width * i + layout.cell_width) 0 < layout.literal_numbers) (sym h) (subst (λ (i : ℕ). i < layout.literal_numbers) (sym read) l)

  peel : {m used : ℕ} {sheet : List Lit} {due : List Node} (bare : List ℕ) → Held image book tab work (suc level) m used sheet due → Trail bare m sheet → Tabled tab bare sheet → Same work bare layout.literals layout.end
      → Peeled image book tab work level due bare m
  unfolding undone
  peel bare (proving {m = m} {sheet = sheet} fr a fs u h) t ar sm =
      record { base = suc m; n = 0; is = omega arith; sheet = sheet; top = proved fr a fs u h; trail = t; area = ar; same = sm; later = refl; literals = λ j q. absurd (omega arith) }
  peel bare (picking {m = m} {sheet = sheet} fr a fs h) t ar sm =
      record { base = m; n = 0; is = omega arith; sheet = sheet; top = picked fr a fs h; trail = t; area = ar; same = sm; later = refl; literals = λ j q. absurd (omega arith) }
  peel bare (under {m = m} h) (marks y e l p q t) ar sm =
      let atom : y / 2 < limits.atoms = omega arith in
      let o : (j : ℕ) → layout.literals ≤ j → get_or (set bare (y / 2) 0) j 0 ≡ get_or bare j 0 = λ j g. get_or-set_other bare (y / 2) j 0 0 (λ z. omega (arith, z)) in
      peel_more bare y m e l
      (peel (set bare (y / 2) 0) h (trail_same (λ j g. o (entry_at j + layout.cell_width) (omega arith)) t) (tabled_undone y atom (p, q) ar) (λ j g i. o j g ∙ sm j g i))

-- ---- the newest frame gives its next way

top_places : {image : List ℕ} {book : Book} {tab : ℕ → ℕ} {work : List ℕ} {level m : ℕ} {sheet : List Lit} {due : List Node} → Top image book tab work level m sheet due
    → (layout.ways ≤ frame_way work level) × (frame_way work level + 1 < layout.trail) × (frame_marks work level ≡ entry_at m) × (suc level ≤ layout.most_frames)
top_places (proved fr a fs u h) = let c = chain_ahead fr.ways in (c.low, c.high, fr.marked, omega (arith, (every_first fs).0))
top_places (picked fr a fs h) = let c = chain_ahead fr.ways in (c.low, c.high, fr.marked, omega (arith, (every_first fs).0))

-- the run with the marks, the set and the agenda of frame k, and a list
abbrev back_run : List ℕ → ℕ → Run → ℕ → ℕ → ℕ → Run
back_run bare k run d top x = record {
  state = LIST;
  task = x;
  agenda = frame_agenda bare k;
  marked = d;
  top = top;
  nodes = run.nodes;
  count = run.count;
  set = frame_set bare k;
}

back_free : (image : List ℕ) (b : Book) (tab : ℕ → ℕ) {work u : List ℕ} {m most : ℕ} {a : Agenda} (used : ℕ) {ts : List Task} {ls : List Lit} {lss : List (List Lit)} → m ≤ most
    → Same work u layout.trail (entry_at m) → Free image b tab work m most a ts (ls ∷ lss) → Free image b tab u m used a ts (ls ∷ [])
back_free image b tab used h f (older q a) = absurd (omega arith)
back_free image b tab used h f (short a k) = short (leads_same image b tab f a) (every_more (every_first k) (every_none (λ (l : List Lit). length l ≤ 1)))
back_free image b tab used h f (empty e l t) = empty e l (tail_same image b tab f t)

keep_free : (image : List ℕ) (b : Book) (tab : ℕ → ℕ) {work u : List ℕ} {m most : ℕ} {a : Agenda} {ts : List Task} {ls : List Lit} {lss : List (List Lit)} → m ≤ most
    → Same work u layout.trail (entry_at m) → Free image b tab work m most a ts (ls ∷ lss) → Free image b tab u m m a ts lss
keep_free image b tab h f (older q a) = absurd (omega arith)
keep_free image b tab h f (short a k) = short (leads_same image b tab f a) (every_rest k)
keep_free image b tab h f (empty e l t) = empty e l (tail_same image b tab f t)

module _ (image : List ℕ) (book : Book) (tab : ℕ → ℕ) (work : List ℕ) (level : ℕ) (run : Run) (bare : List ℕ) (same : Same work bare layout.literals layout.end) (few : suc level ≤ layout.most_frames) where
  -- the next way written in the frame
  abbrev over_written : List ℕ
  over_written = set bare (frame_at level + way_at) (tab (frame_way work level + 1))

  stays : Same work over_written layout.literals (frame_at level + way_at)
  stays j p q = get_or-set_other bare (frame_at level + way_at) j (tab (frame_way work level + 1)) 0 (λ z. omega (arith, z)) ∙ same j p (omega arith)

  word_stays : (i : ℕ) → i < way_at → frame over_written level i ≡ frame work level i
  word_stays i q = stays (frame_at level + i) (omega arith) (omega arith)

  word_bare : (i : ℕ) → i < layout.frame_width → frame bare level i ≡ frame work level i
  word_bare i q = same (frame_at level + i) (omega arith) (omega arith)

  module _ (base : ℕ) (sheet : List Lit) (grounded : Ground image book tab) (trail : Trail bare base sheet) (area : Tabled tab bare sheet) where
    few_marks : base ≤ limits.atoms
    few_marks = trail_few trail

    entries : Same work over_written layout.trail (entry_at base)
    entries j p q = stays j (omega arith) (omega (arith, few_marks))

    held_stays : {used : ℕ} {due : List Node} → Held image book tab work level base used sheet due → Held image book tab over_written level base used sheet due
    held_stays {used} h =
        let most : used ≤ base = held_used image book tab h in
        held_same image book tab (λ j p q. stays j (omega arith) (omega arith)) (λ j p q. entries j p (omega arith)) h

    built : (height used : ℕ) (rest : List Task) (ls : List Lit) (due : List Node) → frame_set bare level ≡ assumed book sheet
        → Held image book tab over_written height base used sheet due
        → Free image book tab over_written base used (frame_agenda work level) rest (ls ∷ []) → Listed image tab (tab (frame_way work level)) ls
        → Fine book height (node_of (map want ls ++ rest) sheet)
        → Holds image book over_written (back_run bare level run (entry_at base) (frame_at height) (tab (frame_way work level))) (node_of (map want ls ++ rest) sheet ∷ due)
    built height used rest ls due set h fr l fn = record {
      tab = tab;
      height = height;
      marks = base;
      used = used;
      sheet = sheet;
      due = due;
      grounded = grounded;
      area = tabled_same (length-set bare (frame_at level + way_at) (tab (frame_way work level + 1))) (λ j p q. get_or-set_other bare (frame_at level + way_at) j (tab (frame_way work level + 1)) 0 (λ z. omega (arith, z))) area;
      trail = trail_same (λ j p. get_or-set_other bare (frame_at level + way_at) (entry_at j + layout.cell_width) (tab (frame_way work level + 1)) 0 (λ z. omega (arith, z, few_marks))) trail;
      held = h;
      chosen = set;
      marked = refl;
      top = refl;
      hand = list l (free_at image book tab (same_agenda work bare level (λ i q. word_bare i (omega arith))) fr) fn;
    }

    set_same : {lss : List (List Lit)} → Frame image book tab work level base sheet lss → frame_set bare level ≡ assumed book sheet
    set_same fr = ap₂ (λ (x y : ℕ). x + bits32 * y) (word_bare 1 (omega arith)) (word_bare 2 (omega arith)) ∙ fr.set

    popped : (used : ℕ) (rest : List Task) (ls : List Lit) (lss : List (List Lit)) (due : List Node) → tab (frame_way work level + 1) ≡ layout.no_link → Frame image book tab work level base sheet (ls ∷ lss)
        → Free image book tab over_written base used (frame_agenda work level) rest (ls ∷ []) → Every (Fine book (suc level)) (by_ways rest sheet (ls ∷ lss))
        → Held image book tab work level base used sheet due
        → Holds image book over_written (back_run bare level run (entry_at base) (frame_at level) (tab (frame_way work level))) (by_ways rest sheet (ls ∷ lss) ++ due)
    popped used rest ls lss due z fr free fs h =
        let c = chain_ahead fr.ways in
        let none : lss ≡ [] = chain_none c.others z in
        subst (λ (l : List (List Lit)). Holds image book over_written (back_run bare level run (entry_at base) (frame_at level) (tab (frame_way work level))) (by_ways rest sheet (ls ∷ l) ++ due)) (sym none)
        (built level used rest ls due (set_same fr) (held_stays h) free c.first (fine_less book (node_of (map want ls ++ rest) sheet) level (every_first fs)))

    frame_next : (ls : List Lit) (lss : List (List Lit)) → Frame image book tab work level base sheet (ls ∷ lss) → frame_at level + way_at < length bare → Frame image book tab over_written level base sheet lss
    frame_next ls lss fr room =
        record {
          marked = word_stays 0 (omega arith) ∙ fr.marked;
          set = ap₂ (λ (x y : ℕ). x + bits32 * y) (word_stays 1 (omega arith)) (word_stays 2 (omega arith)) ∙ fr.set;
          ways = subst (λ (n : ℕ). Chain image tab n lss) (sym (get_or-set_same bare (frame_at level + way_at) (tab (frame_way work level + 1)) 0 room)) (chain_ahead fr.ways).others;
        }

  -- the last way: the frame goes
  pop_holds : (base : ℕ) (sheet : List Lit) (due : List Node) → Ground image book tab → Trail bare base sheet → Tabled tab bare sheet → Top image book tab work level base sheet due → tab (frame_way work level + 1) ≡ layout.no_link
      → Holds image book over_written (back_run bare level run (entry_at base) (frame_at level) (tab (frame_way work level))) due
  pop_holds base sheet due grounded trail area (proved {m = n} {used} {due = below} {rest} {ls} {lss} fr ag fs u h) z =
      popped base sheet grounded trail area used rest ls lss below z fr (older u (leads_same image book tab (λ j p q. entries base sheet grounded trail area j p (omega arith)) ag)) fs h
  pop_holds base sheet due grounded trail area (picked {used = used} {due = below} {rest} {ls} {lss} fr free fs h) z =
      popped base sheet grounded trail area used rest ls lss below z fr (back_free image book tab used (le_refl base) (entries base sheet grounded trail area) free) fs h

  -- another way is left: the frame stays
  keep_holds : (base : ℕ) (sheet : List Lit) (due : List Node) → Ground image book tab → Trail bare base sheet → Tabled tab bare sheet → Top image book tab work level base sheet due → (tab (frame_way work level + 1) ≡ layout.no_link → ⊥)
      → Holds image book over_written (back_run bare level run (entry_at base) (frame_at (suc level)) (tab (frame_way work level))) due
  keep_holds base sheet due grounded trail area (proved {m = n} {used} {due = below} {rest} {ls} {lss = []} fr ag fs u h) nz = absurd (nz (chain_empty (chain_ahead fr.ways).others))
  keep_holds base sheet due grounded trail area (proved {m = n} {used} {due = below} {rest} {ls} {lss = l2 ∷ lss} fr ag fs u h) nz =
      let ag' : Leads image book tab over_written n (frame_agenda work level) rest = leads_same image book tab (λ j p q. entries base sheet grounded trail area j p (omega arith)) ag in
      let room : frame_at level + way_at < length bare = omega (arith, area.long) in
      built base sheet grounded trail area (suc level) n rest ls (by_ways rest sheet (l2 ∷ lss) ++ below) (set_same base sheet grounded trail area fr)
      (proving (frame_next base sheet grounded trail area ls (l2 ∷ lss) fr room)
      (leads_at image book tab (same_agenda work over_written level word_stays) ag') (every_rest fs) u (held_stays base sheet grounded trail area h))
      (older (le_refl n) ag') (chain_ahead fr.ways).first (every_first fs)
  keep_holds base sheet due grounded trail area (picked {used = used} {due = below} {rest} {ls} {lss = []} fr free fs h) nz = absurd (nz (chain_empty (chain_ahead fr.ways).others))
  keep_holds base sheet due grounded trail area (picked {used = used} {due = below} {rest} {ls} {lss = l2 ∷ lss} fr free fs h) nz =
      let room : frame_at level + way_at < length bare = omega (arith, area.long) in
      built base sheet grounded trail area (suc level) base rest ls (by_ways rest sheet (l2 ∷ lss) ++ below) (set_same base sheet grounded trail area fr)
      (picking (frame_next base sheet grounded trail area ls (l2 ∷ lss) fr room)
      (free_at image book tab (same_agenda work over_written level word_stays) (keep_free image book tab (le_refl base) (entries base sheet grounded trail area) free)) (every_rest fs) (held_stays base sheet grounded trail area h))
      (back_free image book tab base (le_refl base) (entries base sheet grounded trail area) free) (chain_ahead fr.ways).first (every_first fs)

-- ---- as the code does it

run_back : (bare : List ℕ) (run : Run) (f d x k d' top x' : ℕ) → f ≡ frame_at k → d ≡ d' → x ≡ x' → run.top ≡ top → giving (restoring bare run f d) LIST x ≡ back_run bare k run d' top x'
run_back bare run f d x k d' top x' p q i j = rw (p, q, i, j) refl

run_popped : (bare : List ℕ) (run : Run) (f d x k d' top x' : ℕ) → f ≡ frame_at k → d ≡ d' → x ≡ x' → f ≡ top → giving (lowered (restoring bare run f d) f) LIST x ≡ back_run bare k run d' top x'
run_popped bare run f d x k d' top x' p q i j = rw (q, i) (subst (λ (n : ℕ). giving (lowered (restoring bare run f d') f) LIST x' ≡ back_run bare k run d' n x') j (rw p refl))

module _ {image : List ℕ} {book : Book} {work : List ℕ} {run : Run} {all : List Node} (memory : Holds image book work run all) (st : run.state ≡ FAILED) where
  all_due : all ≡ memory.due
  all_due = go (in_hand memory st)
    where
      go : {xs : List Node} → HandIn memory FAILED run.task run.agenda xs → xs ≡ memory.due
      go failed = refl

  held_none : {k m used : ℕ} {sheet : List Lit} {due : List Node} → k ≡ 0 → Held image book memory.tab work k m used sheet due → due ≡ []
  held_none e bottom = refl
  held_none e (under x) = held_none e x
  held_none e (proving f a i u x) = absurd (omega arith)
  held_none e (picking f a i x) = absurd (omega arith)

  -- no frame: nothing is due
  nothing_due : run.top ≡ layout.frames → all ≡ []
  nothing_due t = all_due ∙ held_none (omega (arith, memory.top)) memory.held

  module _ (ne : run.top ≡ layout.frames → ⊥) where
    up : memory.height ≡ suc (memory.height - 1)
    up = positive memory.height (λ z. ne (omega (arith, memory.top, z)))
      where
        positive : (n : ℕ) → (n ≡ 0 → ⊥) → n ≡ suc (n - 1)
        positive zero f = absurd (f refl)
        positive (suc n) f = omega arith

    peeled : Peeled image book memory.tab work (memory.height - 1) memory.due work memory.marks
    peeled = peel work (subst (λ (n : ℕ). Held image book memory.tab work n memory.marks memory.used memory.sheet memory.due) up memory.held) memory.trail memory.area (λ j p q. refl)

    place : run.top - layout.frame_width ≡ frame_at (memory.height - 1)
    place = omega (arith, memory.top, up)

    places : (layout.ways ≤ frame_way work (memory.height - 1)) × (frame_way work (memory.height - 1) + 1 < layout.trail) × (frame_marks work (memory.height - 1) ≡ entry_at peeled.base) × (suc (memory.height - 1) ≤ layout.most_frames)
    places = top_places peeled.top

    back_room : (layout.frames + layout.frame_width ≤ run.top) × (run.top ≤ layout.end) × (layout.Long work)
    back_room = (omega (arith, memory.top, up), omega (arith, memory.top, up, places.3), memory.area.long)

    module _ (down : ℕ) (is_down : down ≡ get_or work (run.top - layout.frame_width) 0) where
      down_is : down ≡ entry_at peeled.base
      down_is = is_down ∙ ap (λ (i : ℕ). get_or work i 0) (omega (arith, place)) ∙ places.2

      back_undoable : Undoable work run.marked down
      back_undoable = record {
        count = peeled.n;
        is = omega (arith, memory.marked, down_is, peeled.is);
        low = omega (arith, down_is);
        high = omega (arith, memory.marked, trail_few memory.trail);
        long = memory.area.long;
        literals = λ j q. subst (λ (i : ℕ). get_or work (i + layout.trail_width * j + layout.cell_width) 0 < layout.literal_numbers) (sym down_is) (peeled.literals j q);
      }

      module _ (bare : List ℕ) (is_bare : bare ≡ undone work down ((run.marked - down) / layout.trail_width)) where
        undone_is : undone work (entry_at peeled.base) peeled.n ≡ bare
        undone_is = ap₂ (undone work) (sym down_is) (omega (arith, memory.marked, down_is, peeled.is)) ∙ sym is_bare

        bare_same : Same work bare layout.literals layout.end
        bare_same = subst (λ (l : List ℕ). Same work l layout.literals layout.end) undone_is peeled.same

        bare_area : Tabled memory.tab bare peeled.sheet
        bare_area = subst (λ (l : List ℕ). Tabled memory.tab l peeled.sheet) undone_is peeled.area

        bare_trail : Trail bare peeled.base peeled.sheet
        bare_trail = subst (λ (l : List ℕ). Trail l peeled.base peeled.sheet) undone_is peeled.trail

        bare_later : drop layout.end bare ≡ drop layout.end work
        bare_later = ap (drop layout.end) (sym undone_is) ∙ peeled.later

        module _ (way : ℕ) (is-way : way ≡ get_or bare (run.top - layout.frame_width + way_at) 0) where
          way_is : way ≡ frame_way work (memory.height - 1)
          way_is = is-way ∙ ap (λ (x : ℕ). get_or bare x 0) (omega (arith, place)) ∙ bare_same (frame_at (memory.height - 1) + way_at) (omega arith) (omega (arith, places.3))

          back_way : (way + 1 < layout.trail) × (layout.Long bare)
          back_way = (omega (arith, way_is, places.1), bare_area.long)

          module _ (more list : ℕ) (is-more : more ≡ get_or bare (way + 1) 0) (is-list : list ≡ get_or bare way 0) where
            more_is : more ≡ memory.tab (frame_way work (memory.height - 1) + 1)
            more_is = is-more ∙ ap (λ (y : ℕ). get_or bare (y + 1) 0) way_is ∙ bare_area.tabled (frame_way work (memory.height - 1) + 1) (omega (arith, places.0)) places.1

            list_is : list ≡ memory.tab (frame_way work (memory.height - 1))
            list_is = is-list ∙ ap (λ (y : ℕ). get_or bare y 0) way_is ∙ bare_area.tabled (frame_way work (memory.height - 1)) (omega (arith, places.0)) (omega (arith, places.1))

            written : set bare (run.top - layout.frame_width + way_at) more ≡ set bare (frame_at (memory.height - 1) + way_at) (memory.tab (frame_way work (memory.height - 1) + 1))
            written = ap₂ (λ (y z : ℕ). set bare y z) (omega (arith, place)) more_is

            back_pops : more ≡ layout.no_link → Holds image book (set bare (run.top - layout.frame_width + way_at) more) (giving (lowered (restoring bare run (run.top - layout.frame_width) down) (run.top - layout.frame_width)) LIST list) all
            back_pops z =
                subst (λ (l : List Node). Holds image book (set bare (run.top - layout.frame_width + way_at) more) (giving (lowered (restoring bare run (run.top - layout.frame_width) down) (run.top - layout.frame_width)) LIST list) l) (sym all_due)
                (subst₂ (λ (l : List ℕ) (o : Run). Holds image book l o memory.due) (sym written)
                (sym (run_popped bare run (run.top - layout.frame_width) down list (memory.height - 1) (entry_at peeled.base) (frame_at (memory.height - 1)) (memory.tab (frame_way work (memory.height - 1))) place down_is list_is place))
                (pop_holds image book memory.tab work (memory.height - 1) run bare bare_same places.3 peeled.base peeled.sheet memory.due memory.grounded bare_trail bare_area peeled.top (sym more_is ∙ z)))

            back_keeps : (more ≡ layout.no_link → ⊥) → Holds image book (set bare (run.top - layout.frame_width + way_at) more) (giving (restoring bare run (run.top - layout.frame_width) down) LIST list) all
            back_keeps nz =
                let high : run.top ≡ frame_at (suc (memory.height - 1)) = omega (arith, memory.top, up) in
                subst (λ (l : List Node). Holds image book (set bare (run.top - layout.frame_width + way_at) more) (giving (restoring bare run (run.top - layout.frame_width) down) LIST list) l) (sym all_due)
                (subst₂ (λ (l : List ℕ) (o : Run). Holds image book l o memory.due) (sym written)
                (sym (run_back bare run (run.top - layout.frame_width) down list (memory.height - 1) (entry_at peeled.base) (frame_at (suc (memory.height - 1))) (memory.tab (frame_way work (memory.height - 1))) place down_is list_is high))
                (keep_holds image book memory.tab work (memory.height - 1) run bare bare_same places.3 peeled.base peeled.sheet memory.due memory.grounded bare_trail bare_area peeled.top (λ z. nz (more_is ∙ z))))

module _ (work : List ℕ) (run : Run) (pre : StandingIn work run FAILED) where
  failing : run.state ≡ FAILED
  failing = pre.1.state

  pub backed_over : (q : Run) → run.top ≡ layout.frames → q ≡ in_state run OVER → Backed work run work q
  backed_over q t e = over (λ image b all h. nothing_due h failing t) refl e

  module _ (ne : run.top ≡ layout.frames → ⊥) where
    pub frame_room : (layout.frames + layout.frame_width ≤ run.top) × (run.top ≤ layout.end) × (layout.Long work)
    frame_room = back_room pre.1.holds failing ne

    module _ (down : ℕ) (is_down : down ≡ get_or work (run.top - layout.frame_width) 0) where
      pub frame_undoable : Undoable work run.marked down
      frame_undoable = back_undoable pre.1.holds failing ne down is_down

      module _ (bare : List ℕ) (is_bare : bare ≡ undone work down ((run.marked - down) / layout.trail_width)) (way : ℕ) (is-way : way ≡ get_or bare (run.top - layout.frame_width + way_at) 0) where
        pub frame_way_lem : (way + 1 < layout.trail) × (layout.Long bare)
        frame_way_lem = back_way pre.1.holds failing ne down is_down bare is_bare way is-way

        module _ (more list : ℕ) (is-more : more ≡ get_or bare (way + 1) 0) (is-list : list ≡ get_or bare way 0) (restored run' : Run) (is-restored : restored ≡ restoring bare run (run.top - layout.frame_width) down) where
          later_same : drop layout.end (set bare (run.top - layout.frame_width + way_at) more) ≡ drop layout.end work
          later_same =
              drop-set-lt layout.end bare (run.top - layout.frame_width + way_at) more (omega (arith, frame_room.0, frame_room.1))
              ∙ bare_later pre.1.holds failing ne down is_down bare is_bare

          pub backed_pops : (t : Run) → more ≡ layout.no_link → t ≡ lowered restored (run.top - layout.frame_width) → run' ≡ giving t LIST list → Backed work run (set bare (run.top - layout.frame_width + way_at) more) run'
          backed_pops t z y u =
              let becomes : run' ≡ giving (lowered (restoring bare run (run.top - layout.frame_width) down) (run.top - layout.frame_width)) LIST list =
              u ∙ ap (λ (g : Run). giving g LIST list) (y ∙ ap (λ (g : Run). lowered g (run.top - layout.frame_width)) is-restored) in
              back_to
              (λ image.
              subst (λ (g : Run). Moved image work run (set bare (run.top - layout.frame_width + way_at) more) g LIST) (sym becomes)
              (record {
                holds = λ b all h. back_pops h failing ne down is_down bare is_bare way is-way more list is-more is-list z;
                state = omega arith;
                nodes = refl;
                count = refl;
                later = later_same;
              }))

          pub backed_keeps : (more ≡ layout.no_link → ⊥) → run' ≡ giving restored LIST list → Backed work run (set bare (run.top - layout.frame_width + way_at) more) run'
          backed_keeps nz u =
              let becomes : run' ≡ giving (restoring bare run (run.top - layout.frame_width) down) LIST list = u ∙ ap (λ (g : Run). giving g LIST list) is-restored in
              back_to
              (λ image.
              subst (λ (g : Run). Moved image work run (set bare (run.top - layout.frame_width + way_at) more) g LIST) (sym becomes)
              (record {
                holds = λ b all h. back_keeps h failing ne down is_down bare is_bare way is-way more list is-more is-list nz;
                state = omega arith;
                nodes = refl;
                count = refl;
                later = later_same;
              }))
