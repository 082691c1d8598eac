-- The successes of a tree: each has an accepted sheet, so that its set explains; and inside every explaining set lies a success's set.
-- Both are said of every node from which a search may start.
-- Assumes nothing.
use Rattle.std.specs.Prelude.{ℕ, ◌<◌, ◌≡◌, refl, Bool, true, false, not, ◌⊎◌, List, [], ◌∷◌, map}
use Rattle.std.proofs.Common.{sym, ap, subst, ◌∙◌, true≢false, inl, inr, ⊎_elim, ltb-true}
use Rattle.std.proofs.lemmas.Bool.{false≢true}
use mathlib.Core.List.Memᴰ
use Rattle.base.specs.paper.Bools.{choose}
use Rattle.base.specs.Bools.{clash, both_left, both_right}
use Rattle.base.specs.paper.Lists.{◌∈◌, Every, flat}
use Rattle.base.specs.Lists.{Some, here, every_none, every_more, every_first, every_rest, every_both, every_left, every_right}
use Rattle.base.specs.Flat.{∈_flat, flat_∈, map_every, every_map}
use Rattle.base.specs.paper.Members.{has, Inside}
use Rattle.image.specs.paper.Book.{Lit, Book}
use Rattle.image.specs.Sound.{Orderly}
use Rattle.meaning.specs.paper.Meaning.{abducible, clauses_for, value, explains}
use Rattle.searching.specs.paper.Rules.{opposite, Task, want, pick, Node, root, on, unfolds, opens, children, assumed}
use Rattle.searching.proofs.Results.{on_∈, off_∉, opposite_twice, before, Result, gone, joins, picks, Child, child, child_of, of_child}
use Rattle.searching.specs.paper.Tree.{visits}
use Rattle.searching.proofs.TreeLaws.{by_children, visits_cases, visits_here, visits_below}
use Rattle.searching.proofs.Known.{Met, Fine, Done, On, done_unfolds, unfolds_done, done_root, root_done, True, never_both, fine_explains}
use Rattle.searching.proofs.Sheets.{side, Accepted, has_assumed, Right, settles, given, accepted_explains}

-- a success is a node without a task
abbrev pub Success : Node → Type 0
Success x = x.agenda ≡ []

-- the set of a node that is a success
unfoldable pub reached : Book → List Task → List Lit → List ℕ
reached b [] s = assumed b s ∷ []
reached b (t ∷ rest) s = []

-- the sets of the tree's successes, in visiting order
abbrev pub sets : Book → Node → List ℕ
sets b n = flat (λ (x : Node). reached b x.agenda x.sheet) (visits b n)

-- where a search may start: nothing stands on the sheet, and the agenda has at least all that the root asks
pub record Start (b : Book) (n : Node) : Type 0 where
  pub bare : n.sheet ≡ []
  pub asks : Every (λ (t : Task). t ∈ n.agenda) (root b).agenda

pub root_starts : (b : Book) → Start b (root b)
root_starts b = record { bare = refl; asks = λ t m. m }

-- no literal stands beside its opposite
abbrev Clear : List Lit → Type 0
Clear s = (l : Lit) → l ∈ s → opposite l ∈ s → ⊥

clear_more : (s : List Lit) (l : Lit) → (opposite l ∈ s → ⊥) → Clear s → Clear (l ∷ s)
clear_more s l p h k m n = go (Memᴰ.cases_cons m) (Memᴰ.cases_cons n)
  where
    unlike : (t : Bool) → not t ≡ t → ⊥
    unlike true e = false≢true e
    unlike false e = true≢false e

    go : (k ≡ l) ⊎ (k ∈ s) → (opposite k ≡ l) ⊎ (opposite k ∈ s) → ⊥
    go (inl e) (inl f) = unlike k.sign (ap (λ (x : Lit). x.sign) (f ∙ sym e))
    go (inl e) (inr j) = p (subst (λ (x : Lit). opposite x ∈ s) e j)
    go (inr i) (inl f) = p (subst (λ (x : Lit). x ∈ s) (sym (opposite_twice k) ∙ ap opposite f) i)
    go (inr i) (inr j) = h k i j

-- n leads to a success with the sheet s
record Ends (b : Book) (s : List Lit) (n : Node) : Type 0 where
  -- what stands on n's sheet stands on s
  grows : Every (On s) n.sheet
  -- s has done n's tasks
  done : Every (Done (On s)) n.agenda
  -- what has joined since is settled by s
  fresh : (l : Lit) → l ∈ s → (l ∈ n.sheet) ⊎ (abducible b l.atom ≡ false → Met (On s) l.sign (clauses_for b l.atom))
  -- and none of it against another
  clear : Clear n.sheet → Clear s

module _ (book : Book) where
  -- a parent leads where its child leads
  ends_up : {s : List Lit} {n c : Node} → Child book n c → Ends book s c → Ends book s n
  ends_up (child (gone {l} p q)) e = record {
    grows = e.grows;
    done = every_more (e.grows l q) e.done;
    fresh = e.fresh;
    clear = e.clear;
  }
  ends_up {s} (child {rest = rest} {s = s₀} (joins {l} {ts} p q m)) e = record {
    grows = every_rest e.grows;
    done = every_more (every_first e.grows) (every_right ts e.done);
    fresh = λ k i. ⊎_elim (λ (j : k ∈ l ∷ s₀). new k (Memᴰ.cases_cons j)) (λ f. inr f) (e.fresh k i);
    clear = λ h. e.clear (clear_more s₀ l p h);
  }
    where
      opened : (r : Bool) → abducible book l.atom ≡ r → ts ∈ choose r ([] ∷ []) (unfolds l.sign (clauses_for book l.atom)) → abducible book l.atom ≡ false
          → Met (On s) l.sign (clauses_for book l.atom)
      opened true a i f = clash a f
      opened false a i f = done_unfolds (On s) l.sign (clauses_for book l.atom) ts i (every_left rest e.done)

      new : (k : Lit) → (k ≡ l) ⊎ (k ∈ s₀) → (k ∈ s₀) ⊎ (abducible book k.atom ≡ false → Met (On s) k.sign (clauses_for book k.atom))
      new k (inl i) = inr (subst (λ (x : Lit). abducible book x.atom ≡ false → Met (On s) x.sign (clauses_for book x.atom)) (sym i) (opened (abducible book l.atom) refl m))
      new k (inr j) = inl j
  ends_up {s} (child (picks {ways} {way} m)) e = record {
    grows = e.grows;
    done = every_more (way, m, map_every (Done (On s)) want way (every_left _ e.done)) (every_right (map want way) e.done);
    fresh = e.fresh;
    clear = e.clear;
  }

  success_ends : (x : Node) → Success x → Ends book x.sheet x
  success_ends x e = record {
    grows = λ l m. m;
    done = subst (Every (Done (On x.sheet))) (sym e) (every_none (Done (On x.sheet)));
    fresh = λ l m. inl m;
    clear = λ h. h;
  }

  -- a node leads to every success of its tree
  ends : (x : Node) → Success x → (n : Node) → x ∈ visits book n → Ends book x.sheet n
  ends x e = by_children book (λ (n : Node). x ∈ visits book n → Ends book x.sheet n) (λ n ih m. go n ih (visits_cases book n m))
    where
      go : (n : Node) → ((c : Node) → c ∈ children book n → x ∈ visits book c → Ends book x.sheet c)
          → (x ≡ n) ⊎ Some (λ (c : Node). x ∈ visits book c) (children book n) → Ends book x.sheet n
      go n ih (inl q) = subst (λ (m : Node). Ends book x.sheet m) q (success_ends x e)
      go n ih (inr w) = ends_up (child_of book n w.1) (ih w.0 w.1 w.2)

  -- A success has done every task of each node that it stands below.
  pub success_done : (n x : Node) → x ∈ visits book n → Success x → Every (Done (On x.sheet)) n.agenda
  success_done n x m e = (ends x e n m).done

  -- Every success below a start gives an accepted sheet.
  pub success_accepted : (n x : Node) → Start book n → x ∈ visits book n → Success x → Accepted book x.sheet
  success_accepted n x start m e = record {
    apart = λ p i j. clear (side p true) i j;
    goal = fine.0;
    held_true = λ p a i. settled (side p true) i a;
    held_false = λ p a i. settled (side p false) i a;
    constraints = fine.1;
  }
    where
      end : Ends book x.sheet n
      end = ends x e n m

      fine : Fine (On x.sheet) book
      fine = done_root (On x.sheet) book (λ t i. end.done t (start.asks t i))

      empty : (l : Lit) → l ∈ n.sheet → ⊥
      empty l i = Memᴰ.not-nil (subst (λ (r : List Lit). l ∈ r) start.bare i)

      clear : Clear x.sheet
      clear = end.clear (λ l i j. empty l i)

      settled : (l : Lit) → l ∈ x.sheet → abducible book l.atom ≡ false → Met (On x.sheet) l.sign (clauses_for book l.atom)
      settled l i a = ⊎_elim (λ (j : l ∈ n.sheet). absurd (empty l j)) (λ f. f a) (end.fresh l i)

module _ (book : Book) (orderly : Orderly book) (set : ℕ) where
  -- n's tasks can be done and its sheet is right under the values of the set
  pub record Agrees (n : Node) : Type 0 where
    pub able : Every (Done (True (value book set))) n.agenda
    pub right : Right (value book set) n.sheet

  -- under the set a literal that is true opens to tasks that can be done
  opens_able : (l : Lit) → True (value book set) l → Some (Every (Done (True (value book set)))) (opens book l)
  opens_able l e = go (abducible book l.atom) refl
    where
      go : (r : Bool) → abducible book l.atom ≡ r → Some (Every (Done (True (value book set)))) (choose r ([] ∷ []) (unfolds l.sign (clauses_for book l.atom)))
      go true a = ([], here, every_none (Done (True (value book set))))
      go false a = unfolds_done (True (value book set)) l.sign (clauses_for book l.atom) (settles book orderly set l.atom l.sign a e)

  -- A node that agrees is a success or has a child that agrees.
  agrees_down : (n : Node) → Agrees n → Success n ⊎ Some Agrees (children book n)
  agrees_down n h = go n.agenda h.able
    where
      -- a result whose tasks can be done, and whose sheet is right, makes a child that agrees
      down : (t : Task) (rest : List Task) (r : Node) → Result book n.sheet t r → Every (Done (True (value book set))) r.agenda → Right (value book set) r.sheet
          → Every (Done (True (value book set))) rest → Some Agrees (children book (record { agenda = t ∷ rest; sheet = n.sheet }))
      down t rest r i able right more = (before rest r, of_child book (child i), record { able = every_both able more; right = right })

      wanted : (l : Lit) (rest : List Task) → True (value book set) l → Every (Done (True (value book set))) rest → (t : Bool) → on n.sheet l ≡ t
          → Some Agrees (children book (record { agenda = want l ∷ rest; sheet = n.sheet }))
      wanted l rest e more true q =
          down (want l) rest (record { agenda = []; sheet = n.sheet }) (gone clear (on_∈ n.sheet l q)) (every_none (Done (True (value book set)))) h.right more
        where
          clear : opposite l ∈ n.sheet → ⊥
          clear m = never_both (value book set) l e (h.right (opposite l) m)
      wanted l rest e more false q =
          let w = opens_able l e in
          down (want l) rest (record { agenda = w.0; sheet = l ∷ n.sheet })
          (joins (λ m. never_both (value book set) l e (h.right (opposite l) m)) (off_∉ n.sheet l q) w.1) w.2 (every_more e h.right) more

      go : (ts : List Task) → Every (Done (True (value book set))) ts → (ts ≡ []) ⊎ Some Agrees (children book (record { agenda = ts; sheet = n.sheet }))
      go [] r = inl refl
      go (want l ∷ rest) r = inr (wanted l rest (every_first r) (every_rest r) (on n.sheet l) refl)
      go (pick ways ∷ rest) r =
          let w = every_first {P = Done (True (value book set))} r in
          inr (down (pick ways) rest (record { agenda = map want w.0; sheet = n.sheet }) (picks w.1)
          (every_map (Done (True (value book set))) want w.0 w.2) h.right (every_rest r))

  -- So a tree whose first node agrees has a success whose sheet is right.
  pub agrees_success : (n : Node) → Agrees n → Some (λ (x : Node). Success x × Right (value book set) x.sheet) (visits book n)
  agrees_success = by_children book (λ (n : Node). Agrees n → Some (λ (x : Node). Success x × Right (value book set) x.sheet) (visits book n)) step
    where
      step : (n : Node) → ((c : Node) → c ∈ children book n → Agrees c → Some (λ (x : Node). Success x × Right (value book set) x.sheet) (visits book c))
          → Agrees n → Some (λ (x : Node). Success x × Right (value book set) x.sheet) (visits book n)
      step n ih h = ⊎_elim (λ (e : Success n). (n, visits_here book n, (e, h.right))) (λ (w : Some Agrees (children book n)). deeper w) (agrees_down n h)
        where
          deeper : Some Agrees (children book n) → Some (λ (x : Node). Success x × Right (value book set) x.sheet) (visits book n)
          deeper w =
              let u = ih w.0 w.1 w.2 in
              (u.0, visits_below book n w.0 w.1 u.1, u.2)

  -- What a sheet that is right assumes lies inside the set.
  right_inside : (s : List Lit) → Right (value book set) s → Inside (assumed book s) set
  right_inside s h j e =
      let q = sym (has_assumed book s j) ∙ e in
      sym (given book orderly set j (both_left (abducible book j) (on s (side j true)) q))
      ∙ h (side j true) (on_∈ s (side j true) (both_right (abducible book j) (on s (side j true)) q))

-- a success is a node with an empty agenda, and its set that of its sheet
pub set_from : (b : Book) (n : Node) {d : ℕ} → d ∈ sets b n → Some (λ (x : Node). Success x × (d ≡ assumed b x.sheet)) (visits b n)
unfolding reached
set_from b n {d} m =
    let w = flat_∈ (λ (x : Node). reached b x.agenda x.sheet) (visits b n) m in
    (w.0, w.1, go w.0.agenda w.0.sheet w.2)
  where
    go : (ts : List Task) (s : List Lit) → d ∈ reached b ts s → (ts ≡ []) × (d ≡ assumed b s)
    go [] s k = (refl, Memᴰ.eq_of_singleton k)
    go (t ∷ ts) s k = absurd (Memᴰ.not-nil k)

pub from_set : (b : Book) (n x : Node) → x ∈ visits b n → Success x → assumed b x.sheet ∈ sets b n
unfolding reached
from_set b n x m e =
    ∈_flat (λ (x : Node). reached b x.agenda x.sheet) (visits b n) m
    (subst (λ (ts : List Task). assumed b x.sheet ∈ reached b ts x.sheet) (sym e) here)

module _ (book : Book) (orderly : Orderly book) where
  -- A success's set explains, and its members are abducibles.
  pub sets_explain : (n : Node) → Start book n → (d : ℕ) → d ∈ sets book n → explains book d ≡ true
  sets_explain n start d m =
      let w = set_from book n m in
      subst (λ (k : ℕ). explains book k ≡ true) (sym w.2.1)
      (accepted_explains book orderly w.0.sheet (success_accepted book n w.0 start w.1 w.2.0))

  -- Inside every set under which the start's tasks can be done lies a success's set.
  pub sets_under : (n : Node) (d : ℕ) → Agrees book orderly d n → Some (λ (s : ℕ). Inside s d) (sets book n)
  sets_under n d h =
      let w = agrees_success book orderly d n h in
      (assumed book w.0.sheet, from_set book n w.0 w.1 w.2.0, right_inside book orderly d w.0.sheet w.2.1)

  -- Under a set that explains, the root's tasks can be done.
  pub root_agrees : (d : ℕ) → explains book d ≡ true → Agrees book orderly d (root book)
  root_agrees d e = record {
    able = root_done (True (value book d)) book ((fine_explains book d).1 e);
    right = every_none (True (value book d));
  }

-- the members of a success's set are abducibles
pub sets_abducible : (b : Book) (n : Node) (d : ℕ) → d ∈ sets b n → (j : ℕ) → has d j ≡ true → j < b.abducibles
sets_abducible b n d m j e =
    let w = set_from b n m in
    ltb-true j b.abducibles
    (both_left (abducible b j) (on w.0.sheet (side j true))
    (sym (has_assumed b w.0.sheet j) ∙ subst (λ (k : ℕ). has k j ≡ true) w.2.1 e))
