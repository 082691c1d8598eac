-- Accepted sheets (paper 02, A9): atoms held true and atoms held false that certify an explanation by themselves. "If a sheet is
-- accepted, the abducibles of its true side explain." "For each explaining set there is an accepted sheet whose true side has its
-- members."
-- Assumes nothing.
use Rattle.std.specs.Prelude.{ℕ, zero, suc, ◌%◌, ◌^◌, ◌<◌, ◌≡◌, refl, Bool, true, false, ◌&&◌, ◌⊎◌, List, map, eqb, ltb}
use Rattle.std.proofs.Math.Nat.{zero-div}
use Rattle.std.proofs.Common.{arith, sym, ap, subst, ◌∙◌, inl, inr, lt-ltb}
use Rattle.std.proofs.Math.Dec.{leb-suc-suc, leb-suc-zero}
use Rattle.base.specs.paper.Bools.{choose}
use Rattle.base.specs.Bools.{clash, both, both_left, both_right, choose_true, choose_false, same_test}
use Rattle.base.specs.paper.Lists.{◌∈◌, Every, below}
use Rattle.base.specs.Lists.{Some}
use Rattle.base.specs.Flat.{∈_map, map_∈}
use Rattle.base.specs.paper.Members.{has}
use Rattle.base.specs.Below.{below_in}
use Rattle.image.specs.paper.Book.{Lit, Clause, Constraint, Book}
use Rattle.image.specs.Sound.{Orderly}
use Rattle.sets.specs.SetLaws.{has_built_zero, has_built_suc, same_members}
use Rattle.meaning.specs.paper.Meaning.{abducible, clauses_for, some_body, value, explains}
use Rattle.meaning.proofs.Model.{for_clause, by_rank, value_model}
use Rattle.searching.specs.paper.Rules.{opposite, on, gather, assumed}
use Rattle.searching.proofs.Results.{on_∈, ∈_on, ∉_off}
use Rattle.searching.proofs.Known.{Met, Held, Fine, On, met_change, True, met_found, found_met, fine_explains}

-- the atom p held true, or held false
abbrev pub side : ℕ → Bool → Lit
side p t = record { atom = p; sign = t }

pub record Accepted (b : Book) (s : List Lit) : Type 0 where
  -- "No atom stands on both sides."
  pub apart : (p : ℕ) → side p true ∈ s → side p false ∈ s → ⊥
  -- "All goal literals sit right."
  pub goal : Every (On s) b.goal
  -- "To each defined atom on the true side belongs a clause with all body literals sitting right."
  pub held_true : (p : ℕ) → abducible b p ≡ false → side p true ∈ s → Some (λ (c : Clause). Every (On s) c.body) (clauses_for b p)
  -- "In each clause of each defined atom on the false side some body literal sits opposite."
  pub held_false : (p : ℕ) → abducible b p ≡ false → side p false ∈ s → Every (λ (c : Clause). Some (λ (l : Lit). opposite l ∈ s) c.body) (clauses_for b p)
  -- "In each constraint some condition sits opposite, or all literals of some alternative sit right."
  pub constraints : Every (λ (k : Constraint). Some (λ (l : Lit). opposite l ∈ s) k.conditions ⊎ Some (Every (On s)) k.alternatives) b.constraints

bit : (t : Bool) → choose t 1 0 < 2
bit true = omega arith
bit false = omega arith

-- the members of a set gathered are those for which the test holds
pub has_gather : (n : ℕ) (t : ℕ → Bool) (j : ℕ) → has (gather n t) j ≡ (ltb j n && t j)
unfolding gather
has_gather zero t j = ap (λ (n : ℕ). eqb (n % 2) 1) (zero-div (2 ^ j)) ∙ sym (ap (λ (r : Bool). r && t j) (leb-suc-zero j))
has_gather (suc n) t zero =
    has_built_zero (gather n (λ (j : ℕ). t (suc j))) (choose (t 0) 1 0) (bit (t 0)) ∙ low (t 0) ∙ sym (ap (λ (r : Bool). r && t 0) (lt-ltb 0 (suc n) (omega arith)))
  where
    low : (r : Bool) → eqb (choose r 1 0) 1 ≡ r
    low true = refl
    low false = refl
has_gather (suc n) t (suc j) =
    has_built_suc (gather n (λ (j : ℕ). t (suc j))) (choose (t 0) 1 0) j (bit (t 0))
    ∙ has_gather n (λ (j : ℕ). t (suc j)) j ∙ ap (λ (r : Bool). r && t (suc j)) (sym (leb-suc-suc (suc j) n))

-- the members of a sheet's set are the abducibles held true
pub has_assumed : (b : Book) (s : List Lit) (j : ℕ) → has (assumed b s) j ≡ (abducible b j && on s (side j true))
has_assumed b s j = has_gather b.abducibles (λ (j : ℕ). on s (side j true)) j

-- the sheet on which every atom of the book is held at its value
abbrev pub own_sheet : Book → ℕ → List Lit
own_sheet b d = map (λ (p : ℕ). side p (value b d p)) (below b.atoms)

-- every literal of the sheet is true under v
abbrev pub Right : (ℕ → Bool) → List Lit → Type 0
Right v s = Every (True v) s

module _ (book : Book) (orderly : Orderly book) where
  -- what is found is what settles the atom
  pub settled : (d p : ℕ) (t : Bool) → abducible book p ≡ false → Met (True (value book d)) t (clauses_for book p) → value book d p ≡ t
  settled d p t a m = value_model book orderly d p ∙ choose_false (has d p) (some_body (value book d) (clauses_for book p)) a ∙ met_found (value book d) t (clauses_for book p) m

  pub settles : (d p : ℕ) (t : Bool) → abducible book p ≡ false → value book d p ≡ t → Met (True (value book d)) t (clauses_for book p)
  settles d p t a e =
      found_met (value book d) t (clauses_for book p)
      (sym (choose_false (has d p) (some_body (value book d) (clauses_for book p)) a) ∙ sym (value_model book orderly d p) ∙ e)

  -- an abducible has the value that the set gives it
  pub given : (d p : ℕ) → abducible book p ≡ true → value book d p ≡ has d p
  given d p a = value_model book orderly d p ∙ choose_true (has d p) (some_body (value book d) (clauses_for book p)) a

  -- Every literal of an accepted sheet is true under the values of its set.
  pub accepted_right : (s : List Lit) → Accepted book s → Right (value book (assumed book s)) s
  accepted_right s a l m = by_rank book orderly (λ (p : ℕ). (t : Bool) → side p t ∈ s → value book d p ≡ t) step l.atom l.sign m
    where
      d : ℕ
      d = assumed book s

      assumes : (p : ℕ) → abducible book p ≡ true → value book (assumed book s) p ≡ on s (side p true)
      assumes p e = given (assumed book s) p e ∙ has_assumed book s p ∙ ap (λ (r : Bool). r && on s (side p true)) e

      step : (p : ℕ) → ((c : Clause) → c ∈ clauses_for book p → (k : Lit) → k ∈ c.body → (t : Bool) → side k.atom t ∈ s → value book d k.atom ≡ t)
          → (t : Bool) → side p t ∈ s → value book d p ≡ t
      step p ih t k = go (abducible book p) refl t k
        where
          known : (c : Clause) → c ∈ clauses_for book p → (l : Lit) → l ∈ c.body → (m : Lit) → m.atom ≡ l.atom → m ∈ s → True (value book d) m
          known c i l j m e n =
              ap (value book d) e ∙ ih c i l j m.sign (subst (λ (q : ℕ). side q m.sign ∈ s) e n)

          go : (r : Bool) → abducible book p ≡ r → (t : Bool) → side p t ∈ s → value book d p ≡ t
          go true e true n = assumes p e ∙ ∈_on s (side p true) n
          go true e false n = assumes p e ∙ ∉_off s (side p true) (λ i. a.apart p i n)
          go false e true n = settled d p true e (met_change (On s) (True (value book d)) true (clauses_for book p) known (a.held_true p e n))
          go false e false n = settled d p false e (met_change (On s) (True (value book d)) false (clauses_for book p) known (a.held_false p e n))

  -- So its abducibles held true explain.
  pub accepted_explains : (s : List Lit) → Accepted book s → explains book (assumed book s) ≡ true
  accepted_explains s a = (fine_explains book (assumed book s)).0 (λ l m. right l (a.goal l m), λ k m. held k (a.constraints k m))
    where
      right : Right (value book (assumed book s)) s
      right = accepted_right s a

      held : (k : Constraint) → Held (On s) k → Held (True (value book (assumed book s))) k
      held k (inl w) = inl (w.0, w.1, right (opposite w.0) w.2)
      held k (inr w) = inr (w.0, w.1, λ l m. right l (w.2 l m))

  own_right : (d : ℕ) → Right (value book d) (own_sheet book d)
  own_right d l m =
      let w = map_∈ (λ (p : ℕ). side p (value book d p)) (below book.atoms) m in
      subst (True (value book d)) (sym w.2) refl

  own_in : (d : ℕ) (l : Lit) → l.atom < book.atoms → True (value book d) l → l ∈ own_sheet book d
  own_in d l h e =
      subst (λ (t : Bool). side l.atom t ∈ own_sheet book d) e (∈_map (λ (p : ℕ). side p (value book d p)) (below_in book.atoms l.atom h))

  -- For each explaining set there is an accepted sheet
  pub own_accepted : (d : ℕ) → explains book d ≡ true → Accepted book (own_sheet book d)
  own_accepted d e = record {
    apart = λ p m n. clash (own_right d (side p true) m) (own_right d (side p false) n);
    goal = λ l m. own_in d l (orderly.goal_known l m) (fine.0 l m);
    held_true = λ p a m. met_change (True (value book d)) (On (own_sheet book d)) true (clauses_for book p) (known p) (settles d p true a (own_right d (side p true) m));
    held_false = λ p a m. met_change (True (value book d)) (On (own_sheet book d)) false (clauses_for book p) (known p) (settles d p false a (own_right d (side p false) m));
    constraints = λ k m. held k m (fine.1 k m);
  }
    where
      fine : Fine (True (value book d)) book
      fine = (fine_explains book d).1 e

      known : (p : ℕ) (c : Clause) → c ∈ clauses_for book p → (l : Lit) → l ∈ c.body → (m : Lit) → m.atom ≡ l.atom → True (value book d) m → m ∈ own_sheet book d
      known p c i l j m q t = own_in d m (omega (arith, q, orderly.bodies_known c (for_clause book p i).0 l j)) t

      held : (k : Constraint) → k ∈ book.constraints → Held (True (value book d)) k → Held (On (own_sheet book d)) k
      held k m (inl w) = inl (w.0, w.1, own_in d (opposite w.0) (orderly.conditions_known k m w.0 w.1) w.2)
      held k m (inr w) = inr (w.0, w.1, λ l n. own_in d l (orderly.alternatives_known k m w.0 w.1 l n) (w.2 l n))

  -- whose true side has its members, and no other abducible.
  pub own_assumed : (d : ℕ) → ((j : ℕ) → has d j ≡ true → j < book.abducibles) → assumed book (own_sheet book d) ≡ d
  own_assumed d h = same_members (assumed book (own_sheet book d)) d (λ j. has_assumed book (own_sheet book d) j ∙ same_test (to j) (back j))
    where
      to : (j : ℕ) → (abducible book j && on (own_sheet book d) (side j true)) ≡ true → has d j ≡ true
      to j e =
          sym (given d j (both_left (abducible book j) (on (own_sheet book d) (side j true)) e))
          ∙ own_right d (side j true) (on_∈ (own_sheet book d) (side j true) (both_right (abducible book j) (on (own_sheet book d) (side j true)) e))

      back : (j : ℕ) → has d j ≡ true → (abducible book j && on (own_sheet book d) (side j true)) ≡ true
      back j e =
          let a = lt-ltb j book.abducibles (h j e) in
          both (abducible book j) (on (own_sheet book d) (side j true)) a
          (∈_on (own_sheet book d) (side j true) (own_in d (side j true) (omega (arith, h j e, orderly.assumable)) (given d j a ∙ e)))
