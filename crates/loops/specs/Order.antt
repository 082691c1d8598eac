-- The order of the clauses: where they descend, no atom depends on itself; and each loop goes through a late atom.
-- Assumes nothing.
use Prim.Native.Nat.{ℕ}
use Rattle.std.specs.Prelude.{◌≡◌, Bool, false, ◌&&◌, ◌||◌, ◌⊎◌}
use Rattle.std.proofs.Math.Path.{refl}
use Rattle.std.proofs.Common.{sym, ap, ◌∙◌, subst}
use Rattle.std.proofs.Math.Bool.{true}
use Rattle.std.proofs.Math.Logic.{inl, inr, ⊎_elim}
use mathlib.Core.List.Memᴰ
use mathlib.Core.List.{List, [], ◌∷◌}
use Rattle.base.specs.paper.Bools.{choose}
use Rattle.base.specs.Bools.{clash, both, choose_true, either_left, either_right}
use Rattle.base.specs.paper.Lists.{◌∈◌}
use Rattle.image.specs.paper.Book.{Lit, Clause}
use Rattle.image.specs.paper.Loops.{Depends, direct, through}
use Rattle.loops.specs.Naming.{names, names_marked, unmarked, adding, added, adding_keeps, names_in_lem, names_marked_lem, bodied, bodied_in}

-- the heads of clauses with a body, behind one clause more
abbrev pub headed : Clause → (ℕ → Bool) → ℕ → Bool
headed c f = choose (bodied c) (adding c.head f) f

-- no clause names an atom that has a clause with a body at or before it; before these, f has those heads
unfoldable pub descends : List Clause → (ℕ → Bool) → Bool
descends [] f = true
descends (c ∷ cs) f = choose (names_marked (headed c f) c) false (descends cs (headed c f))

-- the atoms that are named, behind one clause more
abbrev pub naming : Clause → (ℕ → Bool) → ℕ → Bool
naming c named q = named q || names c q

-- the late heads, behind a clause whose body is among what is named
abbrev pub behind : Clause → (ℕ → Bool) → (ℕ → Bool) → ℕ → Bool
behind c named f = choose (bodied c && named c.head) (adding c.head f) f

unfoldable pub late : List Clause → (ℕ → Bool) → (ℕ → Bool) → ℕ → Bool
late [] named f = f
late (c ∷ cs) named f = late cs (naming c named) (behind c (naming c named) f)

-- ---- a clause of a loop leads to another

module _ (cs : List Clause) where
  -- a clause whose body has an atom that depends on itself
  pub record Looping (c : Clause) : Type 0 where
    pub lit : Lit
    pub among : c ∈ cs
    pub within : lit ∈ c.body
    pub loops : Depends cs lit.atom lit.atom

  -- the first step of a dependence
  record First (p q : ℕ) : Type 0 where
    clause : Clause
    lit : Lit
    among : clause ∈ cs
    heads : clause.head ≡ p
    within : lit ∈ clause.body
    goes : (lit.atom ≡ q) ⊎ Depends cs lit.atom q

  first : {p q : ℕ} → Depends cs p q → First p q
  first (direct c l m e k f) = record { clause = c; lit = l; among = m; heads = e; within = k; goes = inl f }
  first {q = q} (through d e) =
      let s = first d in
      record {
        clause = s.clause;
        lit = s.lit;
        among = s.among;
        heads = s.heads;
        within = s.within;
        goes = inr (⊎_elim (λ i. subst (λ x. Depends cs x q) (sym i) e) (λ i. through i e) s.goes);
      }

  pub record Own (p : ℕ) : Type 0 where
    pub clause : Clause
    pub heads : clause.head ≡ p
    pub looping : Looping clause

  -- an atom that depends on itself has such a clause
  pub own : {p : ℕ} → Depends cs p p → Own p
  own {p} d =
      let s = first d in
      let l : Lit = s.lit in
      let step : Depends cs p l.atom = direct s.clause l s.among s.heads s.within refl in
      record {
        clause = s.clause;
        heads = s.heads;
        looping =
            record {
              lit = l;
              among = s.among;
              within = s.within;
              loops = ⊎_elim (λ i. subst (λ x. Depends cs x l.atom) (sym i) step) (λ i. through i step) s.goes;
            };
      }

-- ---- the clauses descend

headed_keeps : (c : Clause) (f : ℕ → Bool) (q : ℕ) → f q ≡ true → headed c f q ≡ true
headed_keeps c f q h = go (bodied c)
  where
    go : (t : Bool) → choose t (adding c.head f) f q ≡ true
    go true = adding_keeps c.head f q h
    go false = h

module _ (cs : List Clause) where
  headed_own : (c : Clause) (f : ℕ → Bool) → Looping cs c → headed c f c.head ≡ true
  headed_own c f k =
      ap (λ (g : ℕ → Bool). g c.head) (choose_true (adding c.head f) f (bodied_in c k.lit k.within)) ∙ added c.head f

  pub descends_free : descends cs unmarked ≡ true → (p : ℕ) → Depends cs p p → ⊥
  unfolding descends
  descends_free h p d = let o = own cs d in go cs unmarked (λ c k. inl k.among) h o.clause o.looping.among o.looping
    where
      -- each clause of a loop is among the rest, or its head is marked
      go : (rest : List Clause) (f : ℕ → Bool) → ((c : Clause) → Looping cs c → (c ∈ rest) ⊎ (f c.head ≡ true)) → descends rest f ≡ true
          → (c : Clause) → c ∈ rest → Looping cs c → ⊥
      go [] f left h c m k = Memᴰ.not-nil m
      go (c ∷ rest) f left h d m k = pick (names_marked (headed c f) c) refl h (λ i. go rest (headed c f) onward i)
        where
          onward : (e : Clause) → Looping cs e → (e ∈ rest) ⊎ (headed c f e.head ≡ true)
          onward e j =
              ⊎_elim
              (λ i.
              ⊎_elim (λ (s : e ≡ c). inr (subst (λ (x : Clause). headed x f e.head ≡ true) s (headed_own e f j))) (λ t. inl t) (Memᴰ.cases_cons i))
              (λ i. inr (headed_keeps c f e.head i)) (left e j)

          pick : (t : Bool) → names_marked (headed c f) c ≡ t → choose t false (descends rest (headed c f)) ≡ true
              → (descends rest (headed c f) ≡ true → (e : Clause) → e ∈ rest → Looping cs e → ⊥) → ⊥
          pick true e h later = clash h refl
          pick false e h later = ⊎_elim (λ (s : d ≡ c). this (subst (Looping cs) s k)) (λ i. later h d i k) (Memᴰ.cases_cons m)
            where
              this : Looping cs c → ⊥
              this j =
                  let o = own cs j.loops in
                  ⊎_elim (λ i. later h o.clause i o.looping)
                  (λ i. clash (names_marked_lem (headed c f) c j.lit j.within (ap (headed c f) (sym o.heads) ∙ i)) e) (onward o.clause o.looping)

-- ---- late atoms

-- w has each atom of a body that has a clause with a body at or behind it
pub data Late (w : ℕ → Bool) : List Clause → Type 0 where
  over : Late w []
  next : {c : Clause} {cs : List Clause}
      → ((l : Lit) → l ∈ c.body → (d : Clause) → d ∈ c ∷ cs → (k : Lit) → k ∈ d.body → d.head ≡ l.atom → w l.atom ≡ true) → Late w cs → Late w (c ∷ cs)

behind_keeps : (c : Clause) (named f : ℕ → Bool) (q : ℕ) → f q ≡ true → behind c named f q ≡ true
behind_keeps c named f q h = go (bodied c && named c.head)
  where
    go : (t : Bool) → choose t (adding c.head f) f q ≡ true
    go true = adding_keeps c.head f q h
    go false = h

late_keeps : (cs : List Clause) (named f : ℕ → Bool) (q : ℕ) → f q ≡ true → late cs named f q ≡ true
unfolding late
late_keeps [] named f q h = h
late_keeps (c ∷ cs) named f q h = late_keeps cs (naming c named) (behind c (naming c named) f) q (behind_keeps c (naming c named) f q h)

-- the first clause's head is named by then
late_first : (c : Clause) (cs : List Clause) (named f : ℕ → Bool) (k : Lit) → k ∈ c.body → naming c named c.head ≡ true → late (c ∷ cs) named f c.head ≡ true
unfolding late
late_first c cs named f k m h =
    late_keeps cs (naming c named) (behind c (naming c named) f) c.head
    (ap (λ (g : ℕ → Bool). g c.head) (choose_true (adding c.head f) f (both (bodied c) (naming c named c.head) (bodied_in c k m) h)) ∙ added c.head f)

late_named : (cs : List Clause) (named f : ℕ → Bool) (q : ℕ) → named q ≡ true → (d : Clause) → d ∈ cs → (k : Lit) → k ∈ d.body → d.head ≡ q → late cs named f q ≡ true
unfolding late
late_named [] named f q h d m k i e = absurd (Memᴰ.not-nil m)
late_named (c ∷ cs) named f q h d m k i e =
    ⊎_elim (λ (s : d ≡ c). this (subst (λ (x : Clause). k ∈ x.body) s i) (ap (λ (x : Clause). x.head) (sym s) ∙ e))
    (λ j. late_named cs (naming c named) (behind c (naming c named) f) q (either_left (named q) (names c q) h) d j k i e) (Memᴰ.cases_cons m)
  where
    this : k ∈ c.body → c.head ≡ q → late (c ∷ cs) named f q ≡ true
    this i e =
        subst (λ (x : ℕ). late (c ∷ cs) named f x ≡ true) e
        (late_first c cs named f k i (either_left (named c.head) (names c c.head) (ap named e ∙ h)))

pub late_late : (cs : List Clause) (named f : ℕ → Bool) → Late (late cs named f) cs
unfolding late
late_late [] named f = over
late_late (c ∷ cs) named f = next first_late (late_late cs (naming c named) (behind c (naming c named) f))
  where
    first_late : (l : Lit) → l ∈ c.body → (d : Clause) → d ∈ c ∷ cs → (k : Lit) → k ∈ d.body → d.head ≡ l.atom → late (c ∷ cs) named f l.atom ≡ true
    first_late l m d j k i e =
        ⊎_elim (λ (s : d ≡ c). this (subst (λ (x : Clause). k ∈ x.body) s i) (ap (λ (x : Clause). x.head) (sym s) ∙ e))
        (λ t. late_named cs (naming c named) (behind c (naming c named) f) l.atom here_named d t k i e) (Memᴰ.cases_cons j)
      where
        here_named : naming c named l.atom ≡ true
        here_named = either_right (named l.atom) (names c l.atom) (names_in_lem c l m)

        this : k ∈ c.body → c.head ≡ l.atom → late (c ∷ cs) named f l.atom ≡ true
        this i e = subst (λ (x : ℕ). late (c ∷ cs) named f x ≡ true) e (late_first c cs named f k i (ap (naming c named) e ∙ here_named))

-- where no late atom depends on itself, none does
pub late_free : (cs : List Clause) (w : ℕ → Bool) → Late w cs → ((q : ℕ) → Depends cs q q → w q ≡ true → ⊥) → (p : ℕ) → Depends cs p p → ⊥
late_free cs w all none p d = let o = own cs d in go cs all (λ c k. k.among) o.clause o.looping
  where
    go : (rest : List Clause) → Late w rest → ((c : Clause) → Looping cs c → c ∈ rest) → (c : Clause) → Looping cs c → ⊥
    go [] over left c k = Memᴰ.not-nil (left c k)
    go (c ∷ rest) (next found late) left d k =
        go rest late (λ e j. ⊎_elim (λ (s : e ≡ c). absurd (this (subst (Looping cs) s j))) (λ i. i) (Memᴰ.cases_cons (left e j))) d k
      where
        this : Looping cs c → ⊥
        this j =
            let o = own cs j.loops in
            none j.lit.atom j.loops
            (found j.lit j.within o.clause (left o.clause o.looping) o.looping.lit o.looping.within o.heads)
