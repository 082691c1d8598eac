-- On a book without loops Fung and Kowalski's meaning is that of paper 01, 5: the completion has one three-valued model, in which every
-- atom has its value, so that goal and constraints are entailed exactly if the set explains.
-- Assumes nothing.
use Rattle.std.specs.Prelude.{ℕ, ◌≡◌, refl, Bool, true, false, not, ◌&&◌, ◌||◌, List, [], ◌∷◌, ◌↔◌}
use Rattle.std.proofs.Common.{sym, ap, ap₂, ◌∙◌}
use Rattle.std.proofs.Math.Path.{fun_ext}
use Rattle.base.specs.paper.Bools.{choose}
use Rattle.base.specs.Bools.{both, both_left, both_right}
use Rattle.base.specs.paper.Lists.{◌∈◌, Every, all, any}
use Rattle.base.specs.Lists.{every_first, every_rest, all_every, every_all}
use Rattle.base.specs.paper.Members.{has}
use Rattle.image.specs.paper.Book.{Lit, Clause, Constraint, Book}
use Rattle.image.specs.Sound.{Orderly}
use Rattle.meaning.specs.paper.Meaning.{abducible, clauses_for, true_in, all_true, some_body, found, value, holds, explains}
use Rattle.meaning.proofs.Model.{by_rank, value_model}
use Rattle.meaning.specs.paper.Completion.{Truth, true₃, false₃, not₃, and₃, or₃, conjunction, disjunction, literal, body, implication, Completed, Entailed, Answer}

-- a Boolean among the three values
abbrev pub known : Bool → Truth
known t = choose t true₃ false₃

known_true : (t : Bool) → known t ≡ true₃ → t ≡ true
known_true true e = refl
known_true false e = cc

known_not : (t : Bool) → not₃ (known t) ≡ known (not t)
known_not true = refl
known_not false = refl

known_and : (s t : Bool) → and₃ (known s) (known t) ≡ known (s && t)
known_and true t = refl
known_and false t = refl

known_or : (s t : Bool) → or₃ (known s) (known t) ≡ known (s || t)
known_or true t = refl
known_or false t = refl

module _ {A : Type 0} (s : A → Truth) (t : A → Bool) where
  known_all : (l : List A) → Every (λ (a : A). s a ≡ known (t a)) l → conjunction s l ≡ known (all t l)
  known_all [] h = refl
  known_all (a ∷ l) h = ap₂ and₃ (every_first h) (known_all l (every_rest h)) ∙ known_and (t a) (all t l)

  known_any : (l : List A) → Every (λ (a : A). s a ≡ known (t a)) l → disjunction s l ≡ known (any t l)
  known_any [] h = refl
  known_any (a ∷ l) h = ap₂ or₃ (every_first h) (known_any l (every_rest h)) ∙ known_or (t a) (any t l)

known_literal : (i : ℕ → Truth) (v : ℕ → Bool) (l : Lit) → i l.atom ≡ known (v l.atom) → literal i l ≡ known (true_in v l)
known_literal i v l e = ap (λ (t : Truth). choose l.sign t (not₃ t)) e ∙ go l.sign (v l.atom)
  where
    go : (s t : Bool) → choose s (known t) (not₃ (known t)) ≡ known (choose s t (not t))
    go true t = refl
    go false t = known_not t

module _ (values : ℕ → Bool) where
  -- the interpretation that knows each atom's value
  abbrev Knows : ℕ → Truth
  Knows p = known (values p)

  known_body : (ls : List Lit) → body ls Knows ≡ known (all_true values ls)
  known_body ls = known_all (literal Knows) (true_in values) ls (λ l m. known_literal Knows values l refl)

  known_implication : (k : Constraint) → implication k Knows ≡ known (holds values k)
  known_implication k =
      ap₂ (λ (s t : Truth). or₃ (not₃ s) t) (known_body k.conditions)
      (known_any (λ (ls : List Lit). body ls Knows) (all_true values) k.alternatives (λ ls m. known_body ls))
      ∙ ap (λ (t : Truth). or₃ t (known (any (all_true values) k.alternatives))) (known_not (all_true values k.conditions) ∙ ap known (some_false k.conditions))
      ∙ known_or (any (λ (l : Lit). not (true_in values l)) k.conditions) (any (all_true values) k.alternatives)
    where
      step : (s t : Bool) → not (s && t) ≡ (not s || not t)
      step true t = refl
      step false t = refl

      some_false : (ls : List Lit) → not (all_true values ls) ≡ any (λ (l : Lit). not (true_in values l)) ls
      some_false [] = refl
      some_false (l ∷ ls) = step (true_in values l) (all_true values ls) ∙ ap (λ (t : Bool). not (true_in values l) || t) (some_false ls)

-- what the completion says of p, in one expression
completed : Book → ℕ → (ℕ → Truth) → ℕ → Truth
completed b d i p = choose (abducible b p) (known (has d p)) (disjunction (λ (c : Clause). body c.body i) (clauses_for b p))

completed_says : (b : Book) (d : ℕ) (i : ℕ → Truth) → Completed b d i → (p : ℕ) → i p ≡ completed b d i p
unfolding completed
completed_says b d i h p = go (abducible b p) refl
  where
    go : (t : Bool) → abducible b p ≡ t → i p ≡ choose t (known (has d p)) (disjunction (λ (c : Clause). body c.body i) (clauses_for b p))
    go true e = h.assumed p e
    go false e = h.defined p e

says_completed : (b : Book) (d : ℕ) (i : ℕ → Truth) → ((p : ℕ) → i p ≡ completed b d i p) → Completed b d i
unfolding completed
says_completed b d i h = record {
  defined = λ p e. h p ∙ ap (λ (t : Bool). choose t (known (has d p)) (disjunction (λ (c : Clause). body c.body i) (clauses_for b p))) e;
  assumed = λ p e. h p ∙ ap (λ (t : Bool). choose t (known (has d p)) (disjunction (λ (c : Clause). body c.body i) (clauses_for b p))) e;
}

completed_found : (b : Book) (d : ℕ) (i : ℕ → Truth) (v : ℕ → Bool) (p : ℕ)
    → ((c : Clause) → c ∈ clauses_for b p → (l : Lit) → l ∈ c.body → i l.atom ≡ known (v l.atom))
    → completed b d i p ≡ known (found b d v p)
unfolding completed
completed_found b d i v p h =
    ap (λ (t : Truth). choose (abducible b p) (known (has d p)) t)
    (known_any (λ (c : Clause). body c.body i) (λ (c : Clause). all_true v c.body) (clauses_for b p)
    (λ c m. known_all (literal i) (true_in v) c.body (λ l k. known_literal i v l (h c m l k))))
    ∙ go (abducible b p)
  where
    go : (t : Bool) → choose t (known (has d p)) (known (some_body v (clauses_for b p)))
        ≡ known (choose t (has d p) (some_body v (clauses_for b p)))
    go true = refl
    go false = refl

module _ (book : Book) (orderly : Orderly book) (set : ℕ) where
  -- The values, each known, are a model of the completion.
  pub completed_value : Completed book set (λ (p : ℕ). known (value book set p))
  completed_value =
      says_completed book set (Knows (value book set))
      (λ p. ap known (value_model book orderly set p) ∙ sym (completed_found book set (Knows (value book set)) (value book set) p (λ c m l k. refl)))

  -- In every model of the completion every atom has its value: none is unknown.
  pub value_completed : (i : ℕ → Truth) → Completed book set i → (p : ℕ) → i p ≡ known (value book set p)
  value_completed i h =
      by_rank book orderly (λ (p : ℕ). i p ≡ known (value book set p))
      (λ p ih. completed_says book set i h p ∙ completed_found book set i (value book set) p ih ∙ ap known (sym (value_model book orderly set p)))

  -- So to be entailed is to be true in that one model.
  entails : (formula : (ℕ → Truth) → Truth) (t : Bool) → formula (Knows (value book set)) ≡ known t → t ≡ true → Entailed book set formula
  entails formula t e h i m = ap formula (fun_ext (value_completed i m)) ∙ e ∙ ap known h

  entailed : (formula : (ℕ → Truth) → Truth) (t : Bool) → formula (Knows (value book set)) ≡ known t → Entailed book set formula → t ≡ true
  entailed formula t e h = known_true t (sym e ∙ h (Knows (value book set)) completed_value)

  -- The goal and the constraints are entailed if and only if the set explains.
  pub answer_explains : Answer book set ↔ (explains book set ≡ true)
  answer_explains = (mp, mpr)
    where
      mp : Answer book set → explains book set ≡ true
      mp a =
          both (all_true (value book set) book.goal) (all (holds (value book set)) book.constraints)
          (entailed (body book.goal) (all_true (value book set) book.goal) (known_body (value book set) book.goal) a.goal)
          (every_all (holds (value book set)) book.constraints
          (λ k m. entailed (implication k) (holds (value book set) k) (known_implication (value book set) k) (a.constraints k m)))

      mpr : explains book set ≡ true → Answer book set
      mpr e =
          record {
            constraints = λ k m. entails (implication k) (holds (value book set) k) (known_implication (value book set) k)
                (all_every (holds (value book set)) book.constraints (both_right (all_true (value book set) book.goal) (all (holds (value book set)) book.constraints) e) k m);
            goal = entails (body book.goal) (all_true (value book set) book.goal) (known_body (value book set) book.goal)
                (both_left (all_true (value book set) book.goal) (all (holds (value book set)) book.constraints) e);
          }
