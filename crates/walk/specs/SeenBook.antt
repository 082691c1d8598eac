-- The walk of the whole book, seen as the reader's functions answer it.
-- Assumes nothing.
use Rattle.std.specs.Prelude.{ℕ, ◌+◌, ◌≡◌, refl, length}
use mathlib.Core.List.{List}
use borrow.Author.Tests.{eq-eqb, ne_eqb}
use Rattle.base.specs.paper.Lists.{sum}
use Rattle.image.specs.paper.Book.{Lit, Clause, Constraint, Book, body_count, literal_count}
use Rattle.image.specs.paper.Walk.{Step, found, fault, Walk, after, give, field, running, times}
use Rattle.image.specs.paper.Faults.{limits, wrong_atoms, wrong_abducibles, wrong_count}
use Rattle.image.specs.paper.Decode.{literal, clause, constraint, counted, clauses_and_constraints, book, ends, whole}
use Rattle.faults.specs.Taking.{seen}
use Rattle.walk.specs.Seeing.{seen_found, seen_fault}

module _ {A : Type 0} (s : List ℕ) (most : ℕ) (w : ℕ → Walk A) (at : ℕ) where
  pub counted_no_count : {n p : ℕ} → field s (wrong_count most) at ≡ fault n p → counted s most w at ≡ fault n p
  unfolding counted
  counted_no_count e = rw e

  pub counted_on : {n next : ℕ} → field s (wrong_count most) at ≡ found n next → counted s most w at ≡ w n next
  unfolding counted
  counted_on e = rw e

-- that all is well, or the fault
abbrev pub gone : {A : Type 0} → Step A → Step ℕ
gone st = seen (λ _. 0) st

module _ (image : List ℕ) (atoms abducibles at : ℕ) where
  abbrev all_clauses : Step (List Clause)
  all_clauses = counted image limits.clauses (λ n. running (clause image limits atoms abducibles) body_count n 0) at

  abbrev all_constraints : ℕ → Step (List Constraint)
  all_constraints next = counted image limits.constraints (λ n. running (constraint image limits atoms) literal_count n 0) next

  abbrev bodies : List Clause → ℕ
  bodies cs = 0 + sum body_count cs

  abbrev literals : List Constraint → ℕ
  literals ks = 0 + sum literal_count ks

  pub both_no_clauses : (n p : ℕ) → seen bodies all_clauses ≡ fault n p → gone (clauses_and_constraints image limits atoms abducibles at) ≡ fault n p
  unfolding clauses_and_constraints
  both_no_clauses n p e = rw (seen_fault bodies all_clauses n p e)

  pub both_no_constraints : (y next n p : ℕ) → seen bodies all_clauses ≡ found y next → seen literals (all_constraints next) ≡ fault n p
      → gone (clauses_and_constraints image limits atoms abducibles at) ≡ fault n p
  unfolding clauses_and_constraints
  both_no_constraints y next n p e f =
      let g = seen_found bodies all_clauses y next e in
      rw (g.1, seen_fault literals (all_constraints next) n p f)

  pub both_found : (y next z end : ℕ) → seen bodies all_clauses ≡ found y next → seen literals (all_constraints next) ≡ found z end
      → gone (clauses_and_constraints image limits atoms abducibles at) ≡ found 0 end
  unfolding clauses_and_constraints
  both_found y next z end e f =
      let g = seen_found bodies all_clauses y next e in
      let h = seen_found literals (all_constraints next) z end f in
      rw (g.1, h.1)

module _ (image : List ℕ) (at : ℕ) where
  abbrev goals : ℕ → ℕ → Step (List Lit)
  goals atoms next = counted image limits.goal (times (literal image atoms)) next

  abbrev lits : List Lit → ℕ
  lits ls = 0 + sum (λ _. 1) ls

  pub book_no_atoms : {n p : ℕ} → field image (wrong_atoms limits.atoms) at ≡ fault n p → book image limits at ≡ fault n p
  unfolding book
  book_no_atoms e = rw e

  pub book_no_abducibles : {atoms next n p : ℕ} → field image (wrong_atoms limits.atoms) at ≡ found atoms next → field image (wrong_abducibles limits.abducibles atoms) next ≡ fault n p
      → book image limits at ≡ fault n p
  unfolding book
  book_no_abducibles e f = rw (e, f)

  pub book_no_goal : {atoms next abducibles goal n p : ℕ} → field image (wrong_atoms limits.atoms) at ≡ found atoms next
      → field image (wrong_abducibles limits.abducibles atoms) next ≡ found abducibles goal → seen lits (goals atoms goal) ≡ fault n p → book image limits at ≡ fault n p
  unfolding book
  book_no_goal {atoms = atoms} {goal = goal} {n = n} {p = p} e f g = rw (e, f, seen_fault lits (goals atoms goal) n p g)

  pub book_both : {atoms next abducibles goal y rest : ℕ} → field image (wrong_atoms limits.atoms) at ≡ found atoms next
      → field image (wrong_abducibles limits.abducibles atoms) next ≡ found abducibles goal → seen lits (goals atoms goal) ≡ found y rest
      → gone (book image limits at) ≡ gone (clauses_and_constraints image limits atoms abducibles rest)
  unfolding book
  book_both {atoms = atoms} {abducibles = abducibles} {goal = goal} {y = y} {rest = rest} e f g =
      let h = seen_found lits (goals atoms goal) y rest g in
      rw (e, f, h.1) (go h.0 (clauses_and_constraints image limits atoms abducibles rest))
    where
      made : List Lit → List Clause × List Constraint → Book
      made ls r = record { atoms = atoms; abducibles = abducibles; goal = ls; clauses = r.0; constraints = r.1 }

      go : (ls : List Lit) (st : Step (List Clause × List Constraint)) → gone (after st (λ r. give (made ls r))) ≡ gone st
      go ls (found r m) = refl
      go ls (fault n p) = refl

  pub whole_no_book : {n p : ℕ} → gone (book image limits at) ≡ fault n p → gone (whole image limits at) ≡ fault n p
  unfolding whole
  whole_no_book {n = n} {p = p} e = rw (seen_fault (λ _. 0) (book image limits at) n p e)

  pub whole_ends : {y : ℕ} (next : ℕ) → gone (book image limits at) ≡ found y next → next ≡ length image → gone (whole image limits at) ≡ found 0 next
  unfolding whole ends
  whole_ends {y = y} next e h =
      let b = seen_found (λ _. 0) (book image limits at) y next e in
      rw (b.1, eq-eqb next (length image) h)

  pub whole_left_over : {y : ℕ} (next : ℕ) → gone (book image limits at) ≡ found y next → (next ≡ length image → ⊥) → gone (whole image limits at) ≡ fault 4 next
  unfolding whole ends
  whole_left_over {y = y} next e h =
      let b = seen_found (λ _. 0) (book image limits at) y next e in
      rw (b.1, ne_eqb next (length image) h)
