-- A record is picked, or a success is kept.
-- Assumes nothing.
use Rattle.std.specs.Prelude.{ℕ, ◌+◌, ◌≤◌, ◌<◌, ◌≡◌, refl, List, [], ◌∷◌, ◌++◌, length, get_or, take, Some, None}
use Rattle.std.proofs.Common.{arith, le_refl, sym, ap, ap₂, subst, ◌∙◌}
use Rattle.base.specs.paper.Lists.{Every}
use Rattle.base.specs.Parts.{length_lay, take_lay}
use Rattle.sets.specs.paper.Kept.{insert}
use Rattle.kept.specs.Agreed.{Inserted}
use Rattle.image.specs.paper.Book.{Lit, Book}
use Rattle.image.proofs.Accepted.{orderly}
use Rattle.searching.specs.paper.Rules.{Task, pick, Node, assumed, children}
use Rattle.area.specs.Ground.{Chain}
use Rattle.area.specs.Area as layout
use Rattle.memory.specs.declared.run.Agenda.{Agenda}
use Rattle.memory.specs.declared.run.Run.{Run}
use Rattle.memory.specs.States.{rank, TASK, WAY, FAILED, FULL}
use Rattle.memory.specs.Machine.{node_of, Free, older, short, empty, Fine, by_ways, literal, record_at, last, failed, way, Holds, HandIn, HandOf, in_hand, with_hand}
use Rattle.memory.specs.Tasks.{children_picks, fine_children, held_pick}
use Rattle.memory.specs.Pieces.{in_state, giving, keeping}
use Rattle.memory.specs.Chains.{chain_none, chain_empty, chain_apart}
use Rattle.memory.specs.Agreed.{Visited, Tasked, SuccessKept, full, inserted, Picked, picks, succeeds}

free_any : (image : List ℕ) (b : Book) (tab : ℕ → ℕ) {work : List ℕ} {m most : ℕ} {a : Agenda} (used : ℕ) {ts : List Task} {lss : List (List Lit)} → m ≤ most
    → Free image b tab work m most a ts lss → Free image b tab work m used a ts lss
free_any image b tab used h (older q a) = absurd (omega arith)
free_any image b tab used h (short a k) = short a k
free_any image b tab used h (empty e l t) = empty e l t

module _ {image : List ℕ} {book : Book} {work : List ℕ} {run : Run} {first : Node} {rest : List Node} (memory : Holds image book work run (first ∷ rest)) (st : run.state ≡ TASK) (rec : layout.literal_numbers ≤ run.task) where
  data Recorded : Type 0 where
    choice : (ts : List Task) (lss : List (List Lit)) → run.task + 1 < layout.cells → Chain image memory.tab (memory.tab run.task) lss
        → Free image book memory.tab work memory.marks memory.marks run.agenda ts lss
        → Fine book memory.height (node_of (pick lss ∷ ts) memory.sheet) → first ≡ node_of (pick lss ∷ ts) memory.sheet → memory.due ≡ rest → Recorded
    done : run.task < layout.cells → memory.tab run.task ≡ layout.no_task → first ≡ node_of [] memory.sheet → memory.due ≡ rest → Recorded

  recorded : Recorded
  recorded = go (in_hand memory st) refl
    where
      go : {xs : List Node} → HandIn memory TASK run.task run.agenda xs → xs ≡ first ∷ rest → Recorded
      go (literal l a f) i = absurd (omega (arith, l, rec))
      go (record_at {lss} {ts} p q c a f) i =
          let m : node_of (pick lss ∷ ts) memory.sheet ≡ first = cc in
          let n : memory.due ≡ rest = cc in
          choice ts lss q c a f (sym m) n
      go (last p q c) i =
          let m : node_of [] memory.sheet ≡ first = cc in
          let n : memory.due ≡ rest = cc in
          done q c (sym m) n

  record_place_lem : (run.task < layout.cells) × (layout.Long work)
  record_place_lem = go recorded
    where
      go : Recorded → (run.task < layout.cells) × (layout.Long work)
      go (choice ts lss q c a f i n) = (omega arith, memory.area.long)
      go (done q c i n) = (q, memory.area.long)

  number : get_or work run.task 0 ≡ memory.tab run.task
  number = memory.area.tabled run.task (omega arith) (omega (arith, record_place_lem.0))

  some_task : (get_or work run.task 0 ≡ layout.no_task → ⊥) → first.agenda ≡ [] → ⊥
  some_task n e = go recorded
    where
      go : Recorded → ⊥
      go (choice ts lss q c a f i u) = let z : pick lss ∷ ts ≡ [] = sym (ap (λ (y : Node). y.agenda) i) ∙ e in let o : ◌≡◌ {A = ℕ} 0 1 = cc in omega arith
      go (done q c i u) = n (number ∙ c)

  -- no way
  pick_none : get_or work run.task 0 ≡ layout.no_link → Holds image book work (in_state run FAILED) (children book first ++ rest)
  pick_none z = go recorded
    where
      go : Recorded → Holds image book work (in_state run FAILED) (children book first ++ rest)
      go (choice ts lss q c a f i u) =
          let none : lss ≡ [] = chain_none c (sym number ∙ z) in
          let ch : children book first ≡ [] = ap (children book) i ∙ children_picks book memory.sheet ts lss ∙ ap (by_ways ts memory.sheet) none in
          with_hand memory (in_state run FAILED) refl refl refl
          (subst (HandOf memory (in_state run FAILED)) (ap₂ (λ (l m : List Node). l ++ m) (sym ch) u) failed)
      go (done q c i u) = absurd (omega (arith, number, c, z))

  pick_ways : (get_or work run.task 0 ≡ layout.no_link → ⊥) → (get_or work run.task 0 ≡ layout.no_task → ⊥) → Holds image book work (giving run WAY (get_or work run.task 0)) (children book first ++ rest)
  pick_ways n o = go recorded
    where
      ways : (ts : List Task) (lss : List (List Lit)) → Chain image memory.tab (get_or work run.task 0) lss → Free image book memory.tab work memory.marks memory.marks run.agenda ts lss
          → Every (Fine book (memory.height + 1)) (by_ways ts memory.sheet lss) → HandOf memory (giving run WAY (get_or work run.task 0)) (by_ways ts memory.sheet lss ++ memory.due)
      ways ts [] c a fs = absurd (n (chain_empty c))
      ways ts (ls ∷ lss) c a fs = way c (free_any image book memory.tab memory.used (le_refl memory.marks) a) (λ z i. (omega (arith, (fs z i).0), (fs z i).1))

      go : Recorded → Holds image book work (giving run WAY (get_or work run.task 0)) (children book first ++ rest)
      go (choice ts lss q c a f i u) =
          let ch : children book (node_of (pick lss ∷ ts) memory.sheet) ≡ by_ways ts memory.sheet lss = children_picks book memory.sheet ts lss in
          let fs = subst (Every (Fine book (memory.height + 1))) ch (fine_children book (orderly image book memory.grounded.book) memory.height 1 (pick lss) ts memory.sheet (held_pick memory.sheet lss) f) in
          with_hand memory (giving run WAY (get_or work run.task 0)) refl refl refl
          (subst (HandOf memory (giving run WAY (get_or work run.task 0)))
          (ap₂ (λ (l m : List Node). l ++ m) (sym (ap (children book) i ∙ ch)) u)
          (ways ts lss (subst (λ (k : ℕ). Chain image memory.tab k lss) (sym number) c) a fs))
      go (done q c i u) = absurd (o (number ∙ c))

  module _ (over : get_or work run.task 0 ≡ layout.no_task) where
    record Over : Type 0 where
      node : first ≡ node_of [] memory.sheet
      due : memory.due ≡ rest

    ended : Over
    ended = go recorded
      where
        go : Recorded → Over
        go (choice ts lss q c a f i u) = absurd ((chain_apart c).0 (sym number ∙ over))
        go (done q c i u) = record { node = i; due = u }

    over_agenda : first.agenda ≡ []
    over_agenda = ap (λ (y : Node). y.agenda) ended.node

    over_chosen : run.set ≡ assumed book first.sheet
    over_chosen = memory.chosen ∙ sym (ap (λ (y : Node). assumed book y.sheet) ended.node)

    over_after : (n : ℕ) → Holds image book work (keeping run n) rest
    over_after n =
        with_hand memory (keeping run n) refl refl refl
        (subst (HandOf memory (keeping run n)) ended.due failed)

module _ (work : List ℕ) (run : Run) (pre : Tasked work run) (rec : layout.literal_numbers ≤ run.task) where
  pub pick_place : (run.task < layout.cells) × (layout.Long work)
  pick_place = record_place_lem pre.holds pre.state rec

  module _ (sets : List ℕ) (number : ℕ) (is : number ≡ get_or work run.task 0) where
    visited : (o q : Run) → q ≡ o → (number ≡ layout.no_task → ⊥) → rank o.state ≤ rank FAILED → o.nodes ≡ run.nodes → o.count ≡ run.count
        → ((image : List ℕ) (b : Book) (x : Node) (rest : List Node) → Holds image b work run (x ∷ rest) → Holds image b work o (children b x ++ rest)) → Picked sets work run sets q
    visited o q i n st k c f =
        picks
        (subst (λ (p : Run). Visited work run work p) (sym i)
        (record { holds = f; some = λ image b x rest h. some_task h pre.state rec (λ z. n (is ∙ z)); state = st; nodes = k; count = c; later = refl }))
        refl

    pub picked_none : (q : Run) → number ≡ layout.no_link → q ≡ in_state run FAILED → Picked sets work run sets q
    picked_none q z i =
        visited (in_state run FAILED) q i (λ y. omega (arith, y, z)) (omega arith) refl refl (λ image b x rest h. pick_none h pre.state rec (sym is ∙ z))

    pub picked_ways : (q : Run) → (number ≡ layout.no_link → ⊥) → (number ≡ layout.no_task → ⊥) → q ≡ giving run WAY number → Picked sets work run sets q
    picked_ways q n o i =
        visited (giving run WAY (get_or work run.task 0)) q (i ∙ ap (giving run WAY) is) o (omega arith) refl refl
        (λ image b x rest h. pick_ways h pre.state rec (λ z. n (is ∙ z)) (λ z. o (is ∙ z)))

    pub picked_success : (after : List ℕ) (q : Run) → number ≡ layout.no_task → SuccessKept sets run after q → Picked sets work run after q
    picked_success after q z n =
        succeeds
        (record {
          ends = λ image b x rest h. over_agenda h pre.state rec (sym is ∙ z);
          chosen = λ image b x rest h. over_chosen h pre.state rec (sym is ∙ z);
          after = λ image b x rest n h. over_after h pre.state rec (sym is ∙ z) n;
        })
        n

-- ---- a success kept

pub kept_full : (sets : List ℕ) (run : Run) (after : List ℕ) (q : Run) → Inserted (insert (take run.count sets) run.set) sets None after → q ≡ in_state run FULL → SuccessKept sets run after q
kept_full sets run after q l e =
    full l.count (ap length l.list ∙ length_lay (insert (take run.count sets) run.set) sets) e

pub kept_inserted : (sets : List ℕ) (run : Run) (n : ℕ) (after : List ℕ) (q : Run) → Inserted (insert (take run.count sets) run.set) sets (Some n) after → q ≡ keeping run n → SuccessKept sets run after q
kept_inserted sets run n after q l e =
    let kept : List ℕ = insert (take run.count sets) run.set in
    let size : length after ≡ length sets = ap length l.list ∙ length_lay kept sets in
    let fits : length kept ≤ length sets = omega (arith, l.count) in
    inserted n l.count.0 l.count.1 (ap₂ take l.count.0 l.list ∙ take_lay kept sets fits) size e
