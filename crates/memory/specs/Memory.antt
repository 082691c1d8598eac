-- The laws of the work area: what stays where its numbers stay, and how many marks there are.
-- Assumes nothing.
use Rattle.std.specs.Prelude.{ℕ, ◌+◌, ◌*◌, ◌≤◌, ◌<◌, ◌≡◌, List, set}
use Rattle.std.proofs.Common.{arith, le_refl, sym, ap₂, subst, subst₂, ◌∙◌, get_or-set_other}
use Rattle.image.specs.paper.Book.{Lit, Book}
use Rattle.searching.specs.paper.Rules.{Task, Node}
use Rattle.area.specs.Ground.{Chain}
use Rattle.area.specs.Area as layout
use Rattle.memory.specs.Places.{entry_at, frame_at, way_at, bits32, entry, frame, entry_literal, frame_agenda}
use Rattle.memory.specs.declared.run.Agenda.{Agenda}
use Rattle.memory.specs.Machine.{Same, Trail, none, marks, Own, Tail, constraints_from, laid, Leads, linked, more, Free, older, short, empty, Frame, Held, bottom, under, proving, picking}

-- the same numbers where one number is written elsewhere
pub set_same : (work : List ℕ) (i a lo hi : ℕ) → ((j : ℕ) → lo ≤ j → j < hi → j ≡ i → ⊥) → Same work (set work i a) lo hi
set_same work i a lo hi h j p q = get_or-set_other work i j a 0 (h j p q)

pub trail_same : {work v : List ℕ} {m : ℕ} {sheet : List Lit} → ((j : ℕ) → j < m → entry_literal v j ≡ entry_literal work j) → Trail work m sheet → Trail v m sheet
trail_same f none = none
trail_same f (marks {m} y e h p q t) = marks y (f m (omega arith) ∙ e) h p q (trail_same (λ j i. f j (omega arith)) t)

-- two agendas with the same numbers
pub agenda_is : {a c : Agenda} → a.at ≡ c.at → a.end ≡ c.end → a.link ≡ c.link → a ≡ c
agenda_is p q e = λ i. record { at = p i; end = q i; link = e i }

-- the agenda of a frame with the same numbers
pub same_agenda : (work v : List ℕ) (k : ℕ) → ((i : ℕ) → i < way_at → frame v k i ≡ frame work k i) → frame_agenda v k ≡ frame_agenda work k
same_agenda work v k f = agenda_is (f 3 (omega arith)) (f 4 (omega arith)) (f 5 (omega arith))

module _ (image : List ℕ) (book : Book) (tab : ℕ → ℕ) where
  -- ---- more entries

  pub tail_more : {work : List ℕ} {m n l : ℕ} {us : List Task} → m ≤ n → Tail image book tab work m l us → Tail image book tab work n l us
  tail_more h (constraints_from k q) = constraints_from k q
  tail_more {n = n} h (laid j q o t) = let less : j < n = omega arith in laid j less o t

  pub leads_more : {work : List ℕ} {m n : ℕ} {a : Agenda} {ts : List Task} → m ≤ n → Leads image book tab work m a ts → Leads image book tab work n a ts
  leads_more h (linked e i t) = linked e i (tail_more h t)
  leads_more h (more o t) = more o (tail_more h t)

  -- ---- the same numbers

  pub tail_same : {work v : List ℕ} {m l : ℕ} {us : List Task} → Same work v layout.trail (entry_at m) → Tail image book tab work m l us → Tail image book tab v m l us
  tail_same f (constraints_from k q) = constraints_from k q
  tail_same {work} {v} f (laid {ts = ts} {us} j q o t) =
      let e0 : entry v j 0 ≡ entry work j 0 = f (entry_at j + 0) (omega arith) (omega arith) in
      let e1 : entry v j 1 ≡ entry work j 1 = f (entry_at j + 1) (omega arith) (omega arith) in
      let e2 : entry v j 2 ≡ entry work j 2 = f (entry_at j + 2) (omega arith) (omega arith) in
      laid j q (subst₂ (λ (a c : ℕ). Own image tab a c ts) (sym e0) (sym e1) o)
      (subst (λ (n : ℕ). Tail image book tab v j n us) (sym e2) (tail_same (λ i g h. f i g (omega arith)) t))

  pub leads_same : {work v : List ℕ} {m : ℕ} {a : Agenda} {ts : List Task} → Same work v layout.trail (entry_at m) → Leads image book tab work m a ts → Leads image book tab v m a ts
  leads_same f (linked e i t) = linked e i (tail_same f t)
  leads_same f (more o t) = more o (tail_same f t)

  pub held_used : {work : List ℕ} {k m used : ℕ} {sheet : List Lit} {due : List Node} → Held image book tab work k m used sheet due → used ≤ m
  held_used bottom = omega arith
  held_used (under h) = omega (arith, held_used h)
  held_used (proving f a e u h) = omega arith
  held_used (picking f a e h) = omega arith

  free_same : {work v : List ℕ} {m used : ℕ} {a : Agenda} {ts : List Task} {lss : List (List Lit)} → m ≤ used → Same work v layout.trail (entry_at m)
      → Free image book tab work m used a ts lss → Free image book tab v m m a ts lss
  free_same u f (older h a) = absurd (omega arith)
  free_same u f (short a h) = short (leads_same f a) h
  free_same u f (empty e i t) = empty e i (tail_same f t)

  frame_same : {work v : List ℕ} {k m : ℕ} {sheet : List Lit} {lss : List (List Lit)} → ((i : ℕ) → i < layout.frame_width → frame v k i ≡ frame work k i)
      → Frame image book tab work k m sheet lss → Frame image book tab v k m sheet lss
  frame_same {work} {v} {k} {m} {sheet} {lss} f h = record {
    marked = f 0 (omega arith) ∙ h.marked;
    set = ap₂ (λ (x y : ℕ). x + bits32 * y) (f 1 (omega arith)) (f 2 (omega arith)) ∙ h.set;
    ways = subst (λ (n : ℕ). Chain image tab n lss) (sym (f 6 (omega arith))) h.ways;
  }

  pub leads_at : {v : List ℕ} {m : ℕ} {a c : Agenda} {ts : List Task} → c ≡ a → Leads image book tab v m a ts → Leads image book tab v m c ts
  leads_at {v} {m} {ts = ts} e h = subst (λ (x : Agenda). Leads image book tab v m x ts) (sym e) h

  pub free_at : {v : List ℕ} {m used : ℕ} {a c : Agenda} {ts : List Task} {lss : List (List Lit)} → c ≡ a → Free image book tab v m used a ts lss → Free image book tab v m used c ts lss
  free_at {v} {m} {used} {ts = ts} {lss} e h = subst (λ (x : Agenda). Free image book tab v m used x ts lss) (sym e) h

  -- frames stay where their numbers stay, and the entries that they use
  pub held_same : {work v : List ℕ} {k m used : ℕ} {sheet : List Lit} {due : List Node} → Same work v layout.frames (frame_at k) → Same work v layout.trail (entry_at used)
      → Held image book tab work k m used sheet due → Held image book tab v k m used sheet due
  held_same f g bottom = bottom
  held_same f g (under h) = under (held_same f g h)
  held_same {work} {v} f g (proving {k} {m} fr a e u h) =
      let n : (i : ℕ) → i < layout.frame_width → frame v k i ≡ frame work k i = λ i q. f (frame_at k + i) (omega arith) (omega arith) in
      proving (frame_same n fr) (leads_at (same_agenda work v k (λ i q. n i (omega arith))) (leads_same g a)) e u
      (held_same (λ j p q. f j p (omega arith)) (λ j p q. g j p (omega arith)) h)
  held_same {work} {v} f g (picking {k} {m} {used} fr a e h) =
      let n : (i : ℕ) → i < layout.frame_width → frame v k i ≡ frame work k i = λ i q. f (frame_at k + i) (omega arith) (omega arith) in
      let u : used ≤ m = held_used h in
      picking (frame_same n fr) (free_at (same_agenda work v k (λ i q. n i (omega arith))) (free_same (le_refl m) g a)) e
      (held_same (λ j p q. f j p (omega arith)) (λ j p q. g j p (omega arith)) h)
