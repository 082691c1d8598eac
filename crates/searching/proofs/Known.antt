-- What it takes for a literal, a constraint or a task to be settled, said once for every way in which literals may be known: as standing
-- on a sheet, or as true under the values of a set.
-- Assumes nothing.
use Rattle.std.specs.Prelude.{ℕ, ◌≡◌, refl, Bool, true, false, not, ◌↔◌, ◌⊎◌, List, [], ◌∷◌, map}
use Rattle.std.proofs.Common.{sym, ap, subst, inl, inr, ⊎_elim}
use mathlib.Core.List.Memᴰ
use Rattle.base.specs.paper.Bools.{choose}
use Rattle.base.specs.Bools.{clash, both, both_left, both_right, either, either_left, either_right}
use Rattle.base.specs.paper.Lists.{◌∈◌, Every, all, any}
use Rattle.base.specs.Lists.{Some, here, ∈_left, ∈_right, ∈_split, every_none, every_more, every_first, every_both, every_left, every_right, all_every, every_all, any_some, some_any}
use Rattle.base.specs.Tests.{all_fails, any_fails, fails_all, fails_any}
use Rattle.base.specs.Flat.{∈_map, map_∈, every_map, map_every}
use Rattle.image.specs.paper.Book.{Lit, Clause, Constraint, Book}
use Rattle.meaning.specs.paper.Meaning.{true_in, all_true, some_body, value, holds, explains}
use Rattle.searching.specs.paper.Rules.{opposite, Task, want, pick, opposites, break, keep, root, unfolds}

module _ (P : Lit → Type 0) where
  -- what settles a defined atom: true, if a clause has every body literal known; false, if each clause has one whose opposite is known
  abbrev pub Met : Bool → List Clause → Type 0
  Met true cs = Some (λ (c : Clause). Every P c.body) cs
  Met false cs = Every (λ (c : Clause). Some (λ (l : Lit). P (opposite l)) c.body) cs

  -- a condition literal's opposite is known, or every literal of an alternative
  abbrev pub Held : Constraint → Type 0
  Held k = Some (λ (l : Lit). P (opposite l)) k.conditions ⊎ Some (Every P) k.alternatives

  -- the goal literals are known, and the constraints held
  abbrev pub Fine : Book → Type 0
  Fine b = Every P b.goal × Every Held b.constraints

  -- a wanted literal is known, or every literal of one of the lists
  abbrev pub Done : Task → Type 0
  Done (want l) = P l
  Done (pick ways) = Some (Every P) ways

  wants_done : (ls : List Lit) → Every P ls → Every Done (map want ls)
  wants_done ls h = every_map Done want ls h

  done_wants : (ls : List Lit) → Every Done (map want ls) → Every P ls
  done_wants ls h = map_every Done want ls h

  -- one of the opposites is known, alone in its list
  opposites_done : (ls : List Lit) → Some (λ (l : Lit). P (opposite l)) ls → Some (Every P) (opposites ls)
  opposites_done ls w = (opposite w.0 ∷ [], ∈_map (λ (l : Lit). opposite l ∷ []) w.1, every_more w.2 (every_none P))

  done_opposites : (ls : List Lit) → Some (Every P) (opposites ls) → Some (λ (l : Lit). P (opposite l)) ls
  done_opposites ls w =
      let o = map_∈ (λ (l : Lit). opposite l ∷ []) ls w.1 in
      (o.0, o.1, every_first (subst (Every P) o.2 w.2))

  -- what a defined literal unfolds to is done exactly if the atom is settled
  pub unfolds_done : (s : Bool) (cs : List Clause) → Met s cs → Some (Every Done) (unfolds s cs)
  unfolds_done true cs m = (map want m.0.body, ∈_map (λ (c : Clause). map want c.body) m.1, wants_done m.0.body m.2)
  unfolds_done false cs m = (map break cs, here, every_map Done break cs (λ c k. opposites_done c.body (m c k)))

  pub done_unfolds : (s : Bool) (cs : List Clause) (ts : List Task) → ts ∈ unfolds s cs → Every Done ts → Met s cs
  done_unfolds true cs ts m h =
      let w = map_∈ (λ (c : Clause). map want c.body) cs m in
      (w.0, w.1, done_wants w.0.body (subst (Every Done) w.2 h))
  done_unfolds false cs ts m h = λ c k.
      done_opposites c.body (map_every Done break cs (subst (Every Done) (Memᴰ.eq_of_singleton m) h) c k)

  keep_done : (k : Constraint) → Held k → Done (keep k)
  keep_done k (inl w) =
      let o = opposites_done k.conditions w in
      (o.0, ∈_left k.alternatives o.1, o.2)
  keep_done k (inr w) = (w.0, ∈_right (opposites k.conditions) w.1, w.2)

  done_keep : (k : Constraint) → Done (keep k) → Held k
  done_keep k w =
      ⊎_elim
      (λ (m : w.0 ∈ opposites k.conditions). inl (done_opposites k.conditions (w.0, m, w.2)))
      (λ (m : w.0 ∈ k.alternatives). inr (w.0, m, w.2))
      (∈_split (opposites k.conditions) w.1)

  -- the root's tasks are done exactly if the goal is known and the constraints held
  pub root_done : (b : Book) → Fine b → Every Done (root b).agenda
  root_done b h = every_both (wants_done b.goal h.0) (every_map Done keep b.constraints (λ k m. keep_done k (h.1 k m)))

  pub done_root : (b : Book) → Every Done (root b).agenda → Fine b
  done_root b h = (
    done_wants b.goal (every_left (map keep b.constraints) h),
    λ k m. done_keep k (map_every Done keep b.constraints (every_right (map want b.goal) h) k m),
  )

-- the literal stands on the sheet
abbrev pub On : List Lit → Lit → Type 0
On s l = l ∈ s

-- what is known may be known in another way
pub met_change : (P Q : Lit → Type 0) (s : Bool) (cs : List Clause)
    → ((c : Clause) → c ∈ cs → (l : Lit) → l ∈ c.body → (m : Lit) → m.atom ≡ l.atom → P m → Q m) → Met P s cs → Met Q s cs
met_change P Q true cs f w = (w.0, w.1, λ l k. f w.0 w.1 l k l refl (w.2 l k))
met_change P Q false cs f h = λ c m.
    let w = h c m in
    (w.0, w.1, f c m w.0 w.1 (opposite w.0) refl w.2)

-- the literal is true where the atoms have the values v
abbrev pub True : (ℕ → Bool) → Lit → Type 0
True v l = v l.atom ≡ l.sign

pub true_True : (v : ℕ → Bool) (l : Lit) → true_in v l ≡ true → True v l
true_True v l = go l.sign (v l.atom)
  where
    go : (s t : Bool) → choose s t (not t) ≡ true → t ≡ s
    go true t e = e
    go false true e = sym e
    go false false e = refl

pub True-true : (v : ℕ → Bool) (l : Lit) → True v l → true_in v l ≡ true
True-true v l = go l.sign (v l.atom)
  where
    go : (s t : Bool) → t ≡ s → choose s t (not t) ≡ true
    go true t e = e
    go false t e = ap not e

false_True : (v : ℕ → Bool) (l : Lit) → true_in v l ≡ false → True v (opposite l)
false_True v l = go l.sign (v l.atom)
  where
    go : (s t : Bool) → choose s t (not t) ≡ false → t ≡ not s
    go true t e = e
    go false true e = refl
    go false false e = sym e

True-false : (v : ℕ → Bool) (l : Lit) → True v (opposite l) → true_in v l ≡ false
True-false v l = go l.sign (v l.atom)
  where
    go : (s t : Bool) → t ≡ not s → choose s t (not t) ≡ false
    go true t e = e
    go false t e = ap not e

-- no literal is true together with its opposite
pub never_both : (v : ℕ → Bool) (l : Lit) → True v l → True v (opposite l) → ⊥
never_both v l p q = clash (True-true v l p) (True-false v l q)

module _ (values : ℕ → Bool) where
  known_true : (ls : List Lit) → Every (True values) ls → all_true values ls ≡ true
  known_true ls h = every_all (true_in values) ls (λ l m. True-true values l (h l m))

  true_known : (ls : List Lit) → all_true values ls ≡ true → Every (True values) ls
  true_known ls e l m = true_True values l (all_every (true_in values) ls e l m)

  -- the clauses' test finds what settles the atom
  pub met_found : (s : Bool) (cs : List Clause) → Met (True values) s cs → some_body values cs ≡ s
  met_found true cs w = some_any (λ (c : Clause). all_true values c.body) cs (w.0, w.1, known_true w.0.body w.2)
  met_found false cs h =
      fails_any (λ (c : Clause). all_true values c.body) cs
      (λ c m.
      let w = h c m in
      fails_all (true_in values) c.body (w.0, w.1, True-false values w.0 w.2))

  pub found_met : (s : Bool) (cs : List Clause) → some_body values cs ≡ s → Met (True values) s cs
  found_met true cs e =
      let w = any_some (λ (c : Clause). all_true values c.body) cs e in
      (w.0, w.1, true_known w.0.body w.2)
  found_met false cs e = λ c m.
      let w = all_fails (true_in values) c.body (any_fails (λ (c : Clause). all_true values c.body) cs e c m) in
      (w.0, w.1, false_True values w.0 w.2)

  held_holds : (k : Constraint) → Held (True values) k → holds values k ≡ true
  held_holds k (inl w) =
      either_left (any (λ (l : Lit). not (true_in values l)) k.conditions) (any (all_true values) k.alternatives)
      (some_any (λ (l : Lit). not (true_in values l)) k.conditions (w.0, w.1, ap not (True-false values w.0 w.2)))
  held_holds k (inr w) =
      either_right (any (λ (l : Lit). not (true_in values l)) k.conditions) (any (all_true values) k.alternatives)
      (some_any (all_true values) k.alternatives (w.0, w.1, known_true w.0 w.2))

  holds_held : (k : Constraint) → holds values k ≡ true → Held (True values) k
  holds_held k e =
      ⊎_elim
      (λ (p : any (λ (l : Lit). not (true_in values l)) k.conditions ≡ true).
      let w = any_some (λ (l : Lit). not (true_in values l)) k.conditions p in
      inl (w.0, w.1, false_True values w.0 (untrue (true_in values w.0) w.2)))
      (λ (p : any (all_true values) k.alternatives ≡ true).
      let w = any_some (all_true values) k.alternatives p in
      inr (w.0, w.1, true_known w.0 w.2))
      (either (any (λ (l : Lit). not (true_in values l)) k.conditions) (any (all_true values) k.alternatives) e)
    where
      untrue : (t : Bool) → not t ≡ true → t ≡ false
      untrue true q = sym q
      untrue false q = refl

-- to explain is to have the goal true and the constraints held
pub fine_explains : (b : Book) (d : ℕ) → Fine (True (value b d)) b ↔ (explains b d ≡ true)
fine_explains b d = (
  λ h. both (all_true (value b d) b.goal) (all (holds (value b d)) b.constraints) (known_true (value b d) b.goal h.0)
      (every_all (holds (value b d)) b.constraints (λ k m. held_holds (value b d) k (h.1 k m))),
  λ e. (
    true_known (value b d) b.goal (both_left (all_true (value b d) b.goal) (all (holds (value b d)) b.constraints) e),
    λ k m. holds_held (value b d) k
        (all_every (holds (value b d)) b.constraints (both_right (all_true (value b d) b.goal) (all (holds (value b d)) b.constraints) e) k m),
  ),
)
