-- Agendas: their numbers are small, and how one is laid down.
-- Assumes nothing.
use Rattle.std.specs.Prelude.{ℕ, suc, ◌+◌, ◌-◌, ◌≤◌, ◌<◌, ◌≡◌, refl, List, ◌++◌, length, get_or, set, drop}
use Rattle.std.proofs.Common.{arith, le_refl, sym, ap, subst, subst₂, ◌∙◌, length-set, get_or-set_same, get_or-set_other, drop-set-lt}
use Rattle.image.specs.paper.Book.{Lit, Book}
use Rattle.image.specs.Encode.{longest_image_lem, longest_image}
use Rattle.image.specs.Accepted.{within}
use Rattle.searching.specs.paper.Rules.{Task, Node}
use Rattle.area.specs.Ground.{record_at, Ground, Tabled}
use Rattle.area.specs.Area as layout
use Rattle.image.specs.paper.Faults.{limits}
use Rattle.memory.specs.Places.{entry_at, entry}
use Rattle.memory.specs.declared.run.Agenda.{Agenda}
use Rattle.memory.specs.declared.run.Run.{Run}
use Rattle.memory.specs.Machine.{Same, Trail, Own, lits, records, Tail, constraints_from, laid, Leads, linked, more, Short, Free, older, short, empty, Held}
use Rattle.memory.specs.Memory.{trail_same, tail_more, leads_more, tail_same, held_same}
use Rattle.memory.specs.Sheet.{tabled_same}
use Rattle.memory.specs.Pieces.{LaidDown, nothing, cell}

-- ---- an agenda in a cell

abbrev celled : List ℕ → ℕ → Agenda → List ℕ
celled work i a = set (set (set work i a.at) (i + 1) a.end) (i + 2) a.link

module _ (work : List ℕ) (place : ℕ) (agenda : Agenda) where
  cell_length : length (celled work place agenda) ≡ length work
  cell_length = simp length-set

  cell_other : (j : ℕ) → (j ≡ place → ⊥) → (j ≡ place + 1 → ⊥) → (j ≡ place + 2 → ⊥) → get_or (celled work place agenda) j 0 ≡ get_or work j 0
  cell_other j p q o =
      get_or-set_other (set (set work place agenda.at) (place + 1) agenda.end) (place + 2) j agenda.link 0 o ∙ get_or-set_other (set work place agenda.at) (place + 1) j agenda.end 0 q
      ∙ get_or-set_other work place j agenda.at 0 p

  module _ (fits : place + 2 < length work) where
    cell_at : get_or (celled work place agenda) place 0 ≡ agenda.at
    cell_at =
        get_or-set_other (set (set work place agenda.at) (place + 1) agenda.end) (place + 2) place agenda.link 0 (λ e. omega (arith, e))
        ∙ get_or-set_other (set work place agenda.at) (place + 1) place agenda.end 0 (λ e. omega (arith, e))
        ∙ get_or-set_same work place agenda.at 0 (omega arith)

    cell_end : get_or (celled work place agenda) (place + 1) 0 ≡ agenda.end
    cell_end =
        get_or-set_other (set (set work place agenda.at) (place + 1) agenda.end) (place + 2) (place + 1) agenda.link 0 (λ e. omega (arith, e))
        ∙ get_or-set_same (set work place agenda.at) (place + 1) agenda.end 0 (omega (arith, length-set work place agenda.at))

    cell_link : get_or (celled work place agenda) (place + 2) 0 ≡ agenda.link
    cell_link =
        get_or-set_same (set (set work place agenda.at) (place + 1) agenda.end) (place + 2) agenda.link 0
        (omega (arith, length-set (set work place agenda.at) (place + 1) agenda.end, length-set work place agenda.at))

  cell_later : place + 2 < layout.end → drop layout.end (celled work place agenda) ≡ drop layout.end work
  cell_later h =
      drop-set-lt layout.end (set (set work place agenda.at) (place + 1) agenda.end) (place + 2) agenda.link h ∙ drop-set-lt layout.end (set work place agenda.at) (place + 1) agenda.end (omega arith)
      ∙ drop-set-lt layout.end work place agenda.at (omega arith)

-- ---- small numbers

abbrev Small : Agenda → Type 0
Small a = (a.at < layout.places) × (a.end < layout.places) × (a.link + 2 < layout.end)

-- an agenda with tasks of its own has two different ends
pub own_apart : {image : List ℕ} {tab : ℕ → ℕ} {at end : ℕ} {ts : List Task} → Own image tab at end ts → at ≡ end → ⊥
own_apart (lits n e l) i = omega arith
own_apart (records z (record_at p q c k u)) i = omega arith

module _ {image : List ℕ} {book : Book} {tab : ℕ → ℕ} (grounded : Ground image book tab) where
  few : length image ≤ longest_image
  few = longest_image_lem image book grounded.book

  constraints_few : length book.constraints ≤ limits.constraints
  constraints_few = (within image book grounded.book).constraints

  pub tail_small : {work : List ℕ} {m l : ℕ} {us : List Task} → m ≤ limits.atoms → Tail image book tab work m l us → l + 2 < layout.end
  tail_small h (constraints_from k q) = omega (arith, constraints_few)
  tail_small h (laid j q o t) = omega arith

  own_small : {at end : ℕ} {ts : List Task} → Own image tab at end ts → (at < layout.places) × (end < layout.places)
  own_small (lits n e l) = (omega (arith, few), omega (arith, few))
  own_small (records z (record_at p q c k u)) = (omega arith, omega arith)

  pub leads_small : {work : List ℕ} {m : ℕ} {a : Agenda} {ts : List Task} → m ≤ limits.atoms → Leads image book tab work m a ts → Small a
  leads_small h (linked e i t) = (i, omega arith, tail_small h t)
  leads_small h (more o t) = ((own_small o).0, (own_small o).1, tail_small h t)

  pub free_small : {work : List ℕ} {m used : ℕ} {a : Agenda} {ts : List Task} {lss : List (List Lit)} → m ≤ limits.atoms → Free image book tab work m used a ts lss → Small a
  free_small h (older u a) = leads_small (omega arith) a
  free_small h (short a q) = leads_small h a
  free_small h (empty e i t) = (i, omega arith, tail_small h t)

-- the tasks of the agenda behind
pub free_leads : (image : List ℕ) (b : Book) (tab : ℕ → ℕ) {work : List ℕ} {m used : ℕ} {a : Agenda} {ts : List Task} {lss : List (List Lit)}
    → Free image b tab work m used a ts lss → Leads image b tab work m a ts
free_leads image b tab (older u a) = leads_more image b tab (omega arith) a
free_leads image b tab (short a q) = a
free_leads image b tab (empty e i t) = linked e i t

-- ---- an agenda laid down

pub record Down (image : List ℕ) (b : Book) (tab : ℕ → ℕ) (work v : List ℕ) (k m used : ℕ) (sheet : List Lit) (due : List Node) (l : ℕ) (ts : List Task) : Type 0 where
  pub tail : Tail image b tab v m l ts
  pub area : Tabled tab v sheet
  pub trail : Trail v m sheet
  pub held : Held image b tab v k m used sheet due
  pub later : drop layout.end v ≡ drop layout.end work

module _ {image : List ℕ} {book : Book} {tab : ℕ → ℕ} {work : List ℕ} {height marks used : ℕ} {sheet : List Lit} {due : List Node} (run : Run) where
  pub lay_down : {ts : List Task} {lss : List (List Lit)} (v : List ℕ) (l : ℕ) → (Short lss → ⊥) → marks ≤ limits.atoms → run.marked ≡ entry_at marks → Tabled tab work sheet → Trail work marks sheet
      → Held image book tab work height marks used sheet due → Free image book tab work marks used run.agenda ts lss → LaidDown work run v l → Down image book tab work v height marks used sheet due l ts
  lay_down {ts} {lss} v l ns few mk a t h f (nothing e i j) =
      subst₂ (λ (u : List ℕ) (n : ℕ). Down image book tab work u height marks used sheet due n ts) (sym i) (sym j)
      (record { tail = go marks f; area = a; trail = t; held = h; later = refl })
    where
      linking : {marks n : ℕ} {ts : List Task} → n ≤ marks → Leads image book tab work n run.agenda ts → Tail image book tab work marks run.agenda.link ts
      linking q (linked x y z) = tail_more image book tab q z
      linking q (more o z) = absurd (own_apart o e)

      go : (marks : ℕ) {ts : List Task} {lss : List (List Lit)} → Free image book tab work marks used run.agenda ts lss → Tail image book tab work marks run.agenda.link ts
      go marks (older {m = n} u g) = let up : n ≤ suc n = omega arith in linking up g
      go marks (short g q) = linking (le_refl marks) g
      go marks (empty x y z) = z
  lay_down {ts} {lss} v l ns few mk a t h f (cell e i j) = subst₂ (λ (u : List ℕ) (n : ℕ). Down image book tab work u height marks used sheet due n ts) (sym i) (sym j) (go marks mk few t h f ns)
    where
      go : (marks : ℕ) {ts : List Task} {lss : List (List Lit)} → run.marked ≡ entry_at marks → marks ≤ limits.atoms → Trail work marks sheet → Held image book tab work height marks used sheet due
          → Free image book tab work marks used run.agenda ts lss → (Short lss → ⊥)
          → Down image book tab work (celled work (run.marked - layout.trail_width) run.agenda) height marks used sheet due (run.marked - layout.trail_width) ts
      go marks mk few t h (short g q) ns = absurd (ns q)
      go marks mk few t h (empty x y z) ns = absurd (e x)
      go marks mk few t h (older u (linked x y z)) ns = absurd (e x)
      go marks mk few t h (older {m = n} u (more {ts = own} {us} o z)) ns =
          let i : ℕ = run.marked - layout.trail_width in
          let v : List ℕ = celled work i run.agenda in
          let is : i ≡ entry_at n = omega arith in
          let fits : i + 2 < length work = omega (arith, a.long) in
          let e0 : entry v n 0 ≡ run.agenda.at = ap (λ (x : ℕ). get_or v x 0) (omega arith) ∙ cell_at work i run.agenda fits in
          let e1 : entry v n 1 ≡ run.agenda.end = ap (λ (x : ℕ). get_or v x 0) (omega arith) ∙ cell_end work i run.agenda fits in
          let e2 : entry v n 2 ≡ run.agenda.link = ap (λ (x : ℕ). get_or v x 0) (omega arith) ∙ cell_link work i run.agenda fits in
          let below : Same work v 0 (entry_at n) = λ j p q. cell_other work i run.agenda j (λ x. omega (arith, x)) (λ x. omega (arith, x)) (λ x. omega (arith, x)) in
          let above : Same work v layout.frames layout.end = λ j p q. cell_other work i run.agenda j (λ x. omega (arith, x)) (λ x. omega (arith, x)) (λ x. omega (arith, x)) in
          record {
            tail =
                subst (λ (x : ℕ). Tail image book tab v (suc n) x (own ++ us)) (sym is)
                (laid n (omega arith) (subst₂ (λ (x y : ℕ). Own image tab x y own) (sym e0) (sym e1) o)
                (subst (λ (x : ℕ). Tail image book tab v n x us) (sym e2) (tail_same image book tab (λ j p q. below j (omega arith) q) z)));
            area = tabled_same (cell_length work i run.agenda) (λ j p q. below j p (omega arith)) a;
            trail = trail_same (λ j p. cell_other work i run.agenda (entry_at j + layout.cell_width) (λ x. omega (arith, x)) (λ x. omega (arith, x)) (λ x. omega (arith, x))) t;
            held = held_same image book tab (λ j p q. cell_other work i run.agenda j (λ x. omega (arith, x)) (λ x. omega (arith, x)) (λ x. omega (arith, x))) (λ j p q. below j (omega arith) (omega arith)) h;
            later = cell_later work i run.agenda (omega arith);
          }
