-- The marks of the work area and the sheet: what a mark says of a literal, and how a mark and the set change as a literal joins or goes.
-- Assumes nothing.
use Rattle.std.specs.Prelude.{ℕ, zero, suc, ◌+◌, ◌*◌, ◌/◌, ◌%◌, ◌^◌, ◌≤◌, ◌<◌, ◌≡◌, refl, Bool, true, false, ◌&&◌, ◌||◌, ◌⊎◌, List, ◌∷◌, eqb, length, get_or, set}
use Rattle.std.proofs.Common.{arith, pow-suc, sym, ap, ap₂, subst, ◌∙◌, inl, inr, ⊎_elim, eqb-true, eq-eqb, ne_eqb, length-set, get_or-set_same, get_or-set_other}
use Rattle.std.specs.Bool.{beq}
use Rattle.std.proofs.lemmas.Bool.{eqb-false}
use Rattle.base.specs.paper.Bools.{choose}
use Rattle.base.specs.Bools.{decide}
use Rattle.image.specs.paper.Book.{Lit, Book}
use Rattle.image.specs.paper.Decode.{lit_of}
use Rattle.searching.specs.paper.Rules.{opposite, on, gather, assumed}
use Rattle.area.specs.Ground.{mark_of, pos, neg, Tabled}
use Rattle.area.specs.Area as layout
use Rattle.image.specs.paper.Faults.{limits}
use Rattle.memory.specs.Machine.{Same}

-- a literal's number is even for an atom and odd for a negation
pub parity : (y : ℕ) → (y % 2 ≡ 0) ⊎ (y % 2 ≡ 1)
parity y = ⊎_elim (λ e. inl (eqb-true (y % 2) 0 e)) (λ e. inr (let n = eqb-false (y % 2) 0 e in omega arith)) (decide (eqb (y % 2) 0))

pub lit_even : (y : ℕ) → y % 2 ≡ 0 → lit_of y ≡ pos (y / 2)
lit_even y e = λ i. record { atom = y / 2; sign = ap (λ (n : ℕ). eqb n 0) e i }

pub lit_odd : (y : ℕ) → y % 2 ≡ 1 → lit_of y ≡ neg (y / 2)
lit_odd y e = λ i. record { atom = y / 2; sign = ap (λ (n : ℕ). eqb n 0) e i }

-- ---- marks

abbrev pub Unmarked : List Lit → ℕ → Type 0
Unmarked s p = (on s (pos p) ≡ false) × (on s (neg p) ≡ false)

module _ (atom : ℕ) where
  free_mark : (t f : Bool) → mark_of atom t f ≡ layout.no_mark → (t ≡ false) × (f ≡ false)
  free_mark true true e = absurd (omega arith)
  free_mark true false e = absurd (omega arith)
  free_mark false true e = absurd (omega arith)
  free_mark false false e = (refl, refl)

  true_mark : (t f : Bool) → mark_of atom t f ≡ 2 * atom + 1 → (t ≡ true) × (f ≡ false)
  true_mark true true e = absurd (omega arith)
  true_mark true false e = (refl, refl)
  true_mark false true e = absurd (omega arith)
  true_mark false false e = absurd (omega arith)

  false_mark : (t f : Bool) → mark_of atom t f ≡ 2 * atom + 2 → (t ≡ false) × (f ≡ true)
  false_mark true true e = absurd (omega arith)
  false_mark true false e = absurd (omega arith)
  false_mark false true e = (refl, refl)
  false_mark false false e = absurd (omega arith)

  not_true_mark : (t f : Bool) → (mark_of atom t f ≡ layout.no_mark → ⊥) → (mark_of atom t f ≡ 2 * atom + 1 → ⊥) → f ≡ true
  not_true_mark true true n q = refl
  not_true_mark true false n q = absurd (q refl)
  not_true_mark false true n q = refl
  not_true_mark false false n q = absurd (n refl)

  not_false_mark : (t f : Bool) → (mark_of atom t f ≡ layout.no_mark → ⊥) → (mark_of atom t f ≡ 2 * atom + 2 → ⊥) → t ≡ true
  not_false_mark true true n q = refl
  not_false_mark true false n q = refl
  not_false_mark false true n q = absurd (q refl)
  not_false_mark false false n q = absurd (n refl)

pub free_lit : (s : List Lit) (y : ℕ) → Unmarked s (y / 2) → (on s (opposite (lit_of y)) ≡ false) × (on s (lit_of y) ≡ false)
free_lit s y f =
    ⊎_elim
    (λ (e : y % 2 ≡ 0). (ap (λ (l : Lit). on s (opposite l)) (lit_even y e) ∙ f.1, ap (on s) (lit_even y e) ∙ f.0))
    (λ (e : y % 2 ≡ 1). (ap (λ (l : Lit). on s (opposite l)) (lit_odd y e) ∙ f.0, ap (on s) (lit_odd y e) ∙ f.1))
    (parity y)

module _ {tab : ℕ → ℕ} {work : List ℕ} {sheet : List Lit} (tabled : Tabled tab work sheet) (literal : ℕ) (known : literal / 2 < limits.atoms) where
  at_free : get_or work (literal / 2) 0 ≡ layout.no_mark → Unmarked sheet (literal / 2)
  at_free e = free_mark (literal / 2) (on sheet (pos (literal / 2))) (on sheet (neg (literal / 2))) (sym (tabled.marked (literal / 2) known) ∙ e)

  -- a mark of 0: neither the literal nor its opposite stands on the sheet
  pub reads_free : get_or work (literal / 2) 0 ≡ layout.no_mark → Unmarked sheet (literal / 2)
  reads_free e = at_free e

  -- the literal's own mark: it stands there, and its opposite does not
  pub reads_so : get_or work (literal / 2) 0 ≡ literal + 1 → (on sheet (opposite (lit_of literal)) ≡ false) × (on sheet (lit_of literal) ≡ true)
  reads_so q =
      ⊎_elim
      (λ (e : literal % 2 ≡ 0).
      let m = true_mark (literal / 2) (on sheet (pos (literal / 2))) (on sheet (neg (literal / 2))) (sym (tabled.marked (literal / 2) known) ∙ q ∙ omega arith) in
      (ap (λ (l : Lit). on sheet (opposite l)) (lit_even literal e) ∙ m.1, ap (on sheet) (lit_even literal e) ∙ m.0))
      (λ (e : literal % 2 ≡ 1).
      let m = false_mark (literal / 2) (on sheet (pos (literal / 2))) (on sheet (neg (literal / 2))) (sym (tabled.marked (literal / 2) known) ∙ q ∙ omega arith) in
      (ap (λ (l : Lit). on sheet (opposite l)) (lit_odd literal e) ∙ m.0, ap (on sheet) (lit_odd literal e) ∙ m.1))
      (parity literal)

  -- any other mark: its opposite stands there
  pub reads_refused : (get_or work (literal / 2) 0 ≡ layout.no_mark → ⊥) → (get_or work (literal / 2) 0 ≡ literal + 1 → ⊥) → on sheet (opposite (lit_of literal)) ≡ true
  reads_refused p q =
      ⊎_elim
      (λ (e : literal % 2 ≡ 0).
      ap (λ (l : Lit). on sheet (opposite l)) (lit_even literal e)
      ∙ not_true_mark (literal / 2) (on sheet (pos (literal / 2))) (on sheet (neg (literal / 2))) (λ z. p (tabled.marked (literal / 2) known ∙ z)) (λ z. q (tabled.marked (literal / 2) known ∙ z ∙ omega arith)))
      (λ (e : literal % 2 ≡ 1).
      ap (λ (l : Lit). on sheet (opposite l)) (lit_odd literal e)
      ∙ not_false_mark (literal / 2) (on sheet (pos (literal / 2))) (on sheet (neg (literal / 2))) (λ z. p (tabled.marked (literal / 2) known ∙ z)) (λ z. q (tabled.marked (literal / 2) known ∙ z ∙ omega arith)))
      (parity literal)

-- what a literal in front of the sheet changes
on_other : (s : List Lit) (l m : Lit) → (m.atom ≡ l.atom → ⊥) → on (l ∷ s) m ≡ on s m
unfolding on
on_other s l m h = ap (λ (t : Bool). (t && beq m.sign l.sign) || on s m) (ne_eqb m.atom l.atom h)

on_this : (s : List Lit) (p : ℕ) (g h : Bool) → on (record { atom = p; sign = g } ∷ s) (record { atom = p; sign = h }) ≡ (beq h g || on s (record { atom = p; sign = h }))
unfolding on
on_this s p g h = ap (λ (t : Bool). (t && beq h g) || on s (record { atom = p; sign = h })) (eq-eqb p p refl)

mark_written : (s : List Lit) (y : ℕ) → Unmarked s (y / 2) → y + 1 ≡ mark_of (y / 2) (on (lit_of y ∷ s) (pos (y / 2))) (on (lit_of y ∷ s) (neg (y / 2)))
mark_written s y f =
    ⊎_elim
    (λ (e : y % 2 ≡ 0).
    one e
    ∙ ap₂ (mark_of (y / 2)) (sym (on_this s (y / 2) true true)) (sym (on_this s (y / 2) true false ∙ f.1))
    ∙ ap (λ (l : Lit). mark_of (y / 2) (on (l ∷ s) (pos (y / 2))) (on (l ∷ s) (neg (y / 2)))) (sym (lit_even y e)))
    (λ (e : y % 2 ≡ 1).
    two e
    ∙ ap₂ (mark_of (y / 2)) (sym (on_this s (y / 2) false true ∙ f.0)) (sym (on_this s (y / 2) false false))
    ∙ ap (λ (l : Lit). mark_of (y / 2) (on (l ∷ s) (pos (y / 2))) (on (l ∷ s) (neg (y / 2)))) (sym (lit_odd y e)))
    (parity y)
  where
    one : y % 2 ≡ 0 → y + 1 ≡ 2 * (y / 2) + 1
    one e = omega arith

    two : y % 2 ≡ 1 → y + 1 ≡ 2 * (y / 2) + 2
    two e = omega arith

mark_other : (s : List Lit) (y p : ℕ) → (p ≡ y / 2 → ⊥) → mark_of p (on (lit_of y ∷ s) (pos p)) (on (lit_of y ∷ s) (neg p)) ≡ mark_of p (on s (pos p)) (on s (neg p))
mark_other s y p h = ap₂ (mark_of p) (on_other s (lit_of y) (pos p) h) (on_other s (lit_of y) (neg p) h)

-- the area with a literal's mark written
pub tabled_marked : {tab : ℕ → ℕ} {work : List ℕ} {s : List Lit} (y : ℕ) → y / 2 < limits.atoms → Unmarked s (y / 2) → Tabled tab work s
    → Tabled tab (set work (y / 2) (y + 1)) (lit_of y ∷ s)
tabled_marked {tab} {work} {s} y h f a = record {
  long = omega (arith, length-set work (y / 2) (y + 1), a.long);
  tabled = λ j p q. get_or-set_other work (y / 2) j (y + 1) 0 (λ e. omega arith) ∙ a.tabled j p q;
  marked = λ p q. go p q (eqb p (y / 2)) refl;
}
  where
    go : (p : ℕ) → p < limits.atoms → (t : Bool) → eqb p (y / 2) ≡ t
        → get_or (set work (y / 2) (y + 1)) p 0 ≡ mark_of p (on (lit_of y ∷ s) (pos p)) (on (lit_of y ∷ s) (neg p))
    go p q true e =
        let i : p ≡ y / 2 = eqb-true p (y / 2) e in
        subst (λ (n : ℕ). get_or (set work (y / 2) (y + 1)) n 0 ≡ mark_of n (on (lit_of y ∷ s) (pos n)) (on (lit_of y ∷ s) (neg n))) (sym i)
        (get_or-set_same work (y / 2) (y + 1) 0 (omega (arith, a.long)) ∙ mark_written s y f)
    go p q false e =
        let i : p ≡ y / 2 → ⊥ = eqb-false p (y / 2) e in
        get_or-set_other work (y / 2) p (y + 1) 0 i ∙ a.marked p q ∙ sym (mark_other s y p i)

-- and with it undone
pub tabled_undone : {tab : ℕ → ℕ} {work : List ℕ} {s : List Lit} (y : ℕ) → y / 2 < limits.atoms → Unmarked s (y / 2) → Tabled tab work (lit_of y ∷ s)
    → Tabled tab (set work (y / 2) 0) s
tabled_undone {tab} {work} {s} y h f a = record {
  long = omega (arith, length-set work (y / 2) 0, a.long);
  tabled = λ j p q. get_or-set_other work (y / 2) j 0 0 (λ e. omega arith) ∙ a.tabled j p q;
  marked = λ p q. go p q (eqb p (y / 2)) refl;
}
  where
    go : (p : ℕ) → p < limits.atoms → (t : Bool) → eqb p (y / 2) ≡ t → get_or (set work (y / 2) 0) p 0 ≡ mark_of p (on s (pos p)) (on s (neg p))
    go p q true e =
        let i : p ≡ y / 2 = eqb-true p (y / 2) e in
        subst (λ (n : ℕ). get_or (set work (y / 2) 0) n 0 ≡ mark_of n (on s (pos n)) (on s (neg n))) (sym i)
        (get_or-set_same work (y / 2) 0 0 (omega (arith, a.long)) ∙ ap₂ (mark_of (y / 2)) (sym f.0) (sym f.1))
    go p q false e =
        let i : p ≡ y / 2 → ⊥ = eqb-false p (y / 2) e in
        get_or-set_other work (y / 2) p 0 0 i ∙ a.marked p q ∙ mark_other s y p i

-- what lies above the tables does not matter
pub tabled_same : {tab : ℕ → ℕ} {work v : List ℕ} {s : List Lit} → length v ≡ length work → Same work v 0 layout.trail → Tabled tab work s → Tabled tab v s
tabled_same e f a = record {
  long = omega (arith, a.long);
  tabled = λ j p q. f j (omega arith) q ∙ a.tabled j p q;
  marked = λ p q. f p (omega arith) (omega arith) ∙ a.marked p q;
}

-- ---- the set

gather_same : (n : ℕ) (t u : ℕ → Bool) → ((j : ℕ) → j < n → t j ≡ u j) → gather n t ≡ gather n u
unfolding gather
gather_same zero t u h = refl
gather_same (suc n) t u h =
    ap₂ (λ (x : ℕ) (g : Bool). 2 * x + choose g 1 0) (gather_same n (λ j. t (suc j)) (λ j. u (suc j)) (λ j q. h (suc j) (omega arith))) (h 0 (omega arith))

gather_more : (n p : ℕ) (t u : ℕ → Bool) → p < n → ((j : ℕ) → (j ≡ p → ⊥) → t j ≡ u j) → t p ≡ true → u p ≡ false → gather n t ≡ gather n u + 2 ^ p
unfolding gather
gather_more zero p t u q h x z = absurd (omega arith)
gather_more (suc n) zero t u q h x z =
    omega (
      arith,
      gather_same n (λ j. t (suc j)) (λ j. u (suc j)) (λ j i. h (suc j) (λ e. omega (arith, e))),
      ap {B = ℕ} (λ (g : Bool). choose g 1 0) x,
      ap {B = ℕ} (λ (g : Bool). choose g 1 0) z,
    )
gather_more (suc n) (suc p) t u q h x z =
    omega (
      arith,
      gather_more n p (λ j. t (suc j)) (λ j. u (suc j)) (omega arith) (λ j i. h (suc j) (λ e. i (omega (arith, e)))) x z,
      ap {B = ℕ} (λ (g : Bool). choose g 1 0) (h 0 (λ e. omega (arith, e))),
      pow-suc 2 p,
    )

module _ (book : Book) (sheet : List Lit) (literal : ℕ) where
  -- a defined atom or a negation adds nothing to the set
  pub assumed_defined : book.abducibles ≤ literal / 2 → assumed book (lit_of literal ∷ sheet) ≡ assumed book sheet
  assumed_defined h = gather_same book.abducibles (λ j. on (lit_of literal ∷ sheet) (pos j)) (λ j. on sheet (pos j)) (λ j q. on_other sheet (lit_of literal) (pos j) (λ e. omega (arith, e)))

  pub assumed_negated : literal % 2 ≡ 1 → assumed book (lit_of literal ∷ sheet) ≡ assumed book sheet
  assumed_negated o =
      gather_same book.abducibles (λ j. on (lit_of literal ∷ sheet) (pos j)) (λ j. on sheet (pos j))
      (λ j q. ap (λ (l : Lit). on (l ∷ sheet) (pos j)) (lit_odd literal o) ∙ negated j (eqb j (literal / 2)) refl)
    where
      negated : (j : ℕ) (t : Bool) → eqb j (literal / 2) ≡ t → on (neg (literal / 2) ∷ sheet) (pos j) ≡ on sheet (pos j)
      negated j true e =
          subst (λ (n : ℕ). on (neg (literal / 2) ∷ sheet) (pos n) ≡ on sheet (pos n)) (sym (eqb-true j (literal / 2) e)) (on_this sheet (literal / 2) false true)
      negated j false e = on_other sheet (neg (literal / 2)) (pos j) (eqb-false j (literal / 2) e)

  -- an abducible adds its power
  pub assumed_joined : literal % 2 ≡ 0 → literal / 2 < book.abducibles → on sheet (pos (literal / 2)) ≡ false → assumed book (lit_of literal ∷ sheet) ≡ assumed book sheet + 2 ^ (literal / 2)
  assumed_joined e h f =
      gather_more book.abducibles (literal / 2) (λ j. on (lit_of literal ∷ sheet) (pos j)) (λ j. on sheet (pos j)) h
      (λ j i. on_other sheet (lit_of literal) (pos j) i)
      (ap (λ (l : Lit). on (l ∷ sheet) (pos (literal / 2))) (lit_even literal e) ∙ on_this sheet (literal / 2) true true)
      f
