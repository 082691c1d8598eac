-- The scan for an atom's value: over the clauses of the book, and over the body literals of a clause for the atom. What is
-- left of the scan decides the value at every step.
-- Assumes nothing.
use Prim.Native.Nat.{ℕ, zero, suc, ◌+◌, ◌*◌, ◌≤◌, ◌<◌}
use mathlib.Core.Path.{◌≡◌, refl, sym, ap, ap₂, subst, ◌∙◌}
use mathlib.Core.Bool.{Bool, true, false, ◌&&◌, ◌||◌}
use mathlib.Core.List.{List, [], ◌∷◌, ◌++◌}
use native.Mathlib.Omega.{arith}
use native.Mathlib.Numerals.{add-one}
use lib.ListN.{length, get_or, drop}
use lib.Seq.{drop-cons, drop-length}
use lib.Dec.{eqb}
use borrow.Author.Tests.{lt-ltb, le-ltb, eq-eqb, ne_eqb}
use Rattle.base.specs.Bools.{choose_true, choose_false}
use Rattle.base.specs.paper.Lists.{◌∈◌, Every, any, filter, put}
use Rattle.base.specs.Lists.{here, there, every_first, every_rest}
use Rattle.base.specs.paper.Members.{has}
use Rattle.image.specs.paper.Book.{Lit, Clause}
use Rattle.image.specs.paper.Walk.{field_at}
use Rattle.image.specs.LoopLaws.{rank}
use Rattle.image.proofs.LoopLaws.{free_ranks}
use Rattle.image.specs.Spell.{Stands, of_lits, of_clause}
use Rattle.image.specs.StandsLaws.{stands_at, stands_value, stands_rest, stands_within}
use Rattle.image.specs.Finds.{length_lits}
use Rattle.image.specs.Written.{decode_written}
use Rattle.image.specs.Accepted.{closed, book_in, IsBook}
use Rattle.image.proofs.Accepted.{orderly}
use Rattle.image.specs.Shown.{clause_count_at, clause_place, skip, no_clause}
use Rattle.meaning.specs.paper.Meaning.{clauses_for, true_in, all_true, some_body, value}
use Rattle.meaning.proofs.Model.{value_model}
use Rattle.image.specs.paper.Decode.{lit_of}
use Rattle.judging.specs.Notes.{lits_to, lits_of}
use Rattle.image.specs.Places.{shows}
use Rattle.judging.proofs.Image.{lits_stand, lits_less, lits_first, part, part_lits}

pub get_or_in : {A : Type 0} (l : List A) (i : ℕ) (d : A) → i < length l → get_or l i d ∈ l
get_or_in [] i d h = absurd (omega arith)
get_or_in (a ∷ l) zero d h = here
get_or_in (a ∷ l) (suc i) d h = there (get_or_in l i d (omega arith))

-- ---- the value as one test over all clauses

-- a clause is for p and has every body literal true
abbrev pub supports : (ℕ → Bool) → ℕ → Clause → Bool
supports v p c = eqb c.head p && all_true v c.body

any_filter : {A : Type 0} (g f : A → Bool) (l : List A) → any f (filter g l) ≡ any (λ (a : A). g a && f a) l
any_filter g f [] = refl
any_filter {A} g f (a ∷ l) = go (g a) (any_filter g f l)
  where
    go : (t : Bool) → any f (filter g l) ≡ any (λ (x : A). g x && f x) l → any f (put t a (filter g l)) ≡ ((t && f a) || any (λ (x : A). g x && f x) l)
    go true ih = ap (λ (r : Bool). f a || r) ih
    go false ih = ih

module _ (s : List ℕ) (accepts : IsBook s) (d p : ℕ) where
  pub value_set : p < (book_in s).abducibles → value (book_in s) d p ≡ has d p
  value_set h =
      value_model (book_in s) (orderly s (book_in s) accepts) d p
      ∙ choose_true (has d p) (some_body (value (book_in s) d) (clauses_for (book_in s) p)) (lt-ltb p (book_in s).abducibles h)

  value_clauses : (book_in s).abducibles ≤ p → value (book_in s) d p ≡ any (supports (value (book_in s) d) p) (book_in s).clauses
  unfolding clauses_for
  value_clauses h =
      value_model (book_in s) (orderly s (book_in s) accepts) d p
      ∙ choose_false (has d p) (some_body (value (book_in s) d) (clauses_for (book_in s) p)) (le-ltb p (book_in s).abducibles h)
      ∙ any_filter (λ (c : Clause). eqb c.head p) (λ (c : Clause). all_true (value (book_in s) d) c.body) (book_in s).clauses

-- the dependency rank of an atom in the image's book
unfoldable pub rank_in : List ℕ → ℕ → ℕ
rank_in s p = rank (book_in s).clauses (book_in s).atoms p

-- a literal of a clause for p: its atom is the book's, and has a smaller rank
pub record Under (s : List ℕ) (p : ℕ) (l : Lit) : Type 0 where
  pub known : l.atom < (book_in s).atoms
  pub lower : rank_in s l.atom < rank_in s p

under : (s : List ℕ) → IsBook s → (c : Clause) → c ∈ (book_in s).clauses → Every (Under s c.head) c.body
unfolding rank_in
under s e c m l k =
    let w = decode_written s (book_in s) e in
    record {
      known = (w.within.clauses_fine c m).named l k;
      lower = free_ranks (book_in s) (closed (book_in s) w.within) w.free c m l k;
    }

-- ---- a clause where it stands

pub record Clausal (s : List ℕ) (place : ℕ) (c : Clause) : Type 0 where
  pub headed : place + 4 ≤ place + 2 + field_at s place
  pub ended : place + 2 + field_at s place ≤ length s
  pub head : field_at s (place + 2) ≡ c.head
  pub body : lits_to s (place + 2 + field_at s place) (place + 4) ≡ c.body

clausal : (s : List ℕ) (place : ℕ) (c : Clause) → Stands s place (of_clause c) → Clausal s place c
clausal s place c h =
    let rest = stands_rest h in
    let lits : length (of_lits c.body) ≡ length c.body = length_lits c.body in
    let size : field_at s place ≡ 2 * suc (length (of_lits c.body)) = stands_value h in
    let four : place + 2 + 2 ≡ place + 4 = omega arith in
    let all : place + 2 * suc (suc (length (of_lits c.body))) ≤ length s = stands_within (2 * suc (length (of_lits c.body))) (c.head ∷ of_lits c.body) h in
    record {
      headed = omega arith;
      ended = omega arith;
      head = stands_value rest;
      body = lits_stand s (place + 2 + field_at s place) (place + 4) c.body (stands_at four (stands_rest rest)) (omega arith);
    }

-- ---- the clause scan

pub record Scan (s : List ℕ) (d p count place i : ℕ) : Type 0 where
  pub counted : count ≡ length (book_in s).clauses
  pub here : place ≡ clause_place s i
  pub left : value (book_in s) d p ≡ any (supports (value (book_in s) d) p) (drop i (book_in s).clauses)

-- The literal scan, of what is left of the body of the clause numbered i.
pub record Read (s : List ℕ) (d p i : ℕ) (rest : List ℕ) : Type 0 where
  pub under : Every (Under s p) (lits_of rest)
  pub left : value (book_in s) d p ≡ (all_true (value (book_in s) d) (lits_of rest) || any (supports (value (book_in s) d) p) (drop (suc i) (book_in s).clauses))

module _ (s : List ℕ) (accepts : IsBook s) (d p : ℕ) where
  abbrev v : ℕ → Bool
  v = value (book_in s) d

  abbrev cs : List Clause
  cs = (book_in s).clauses

  pub scan_start : (count counted : ℕ) → (book_in s).abducibles ≤ p → count ≡ field_at s counted → counted ≡ clause_count_at s → Scan s d p count (counted + 2) 0
  unfolding skip
  scan_start count counted defined e f =
      let sh = shows s accepts in
      record {
        counted = e ∙ ap (field_at s) f ∙ sh.clauses;
        here = ap (λ (k : ℕ). k + 2) f;
        left = value_clauses s accepts d p defined;
      }

  module _ (count place i : ℕ) (scan : Scan s d p count place i) where
    pub scan_over : i ≡ count → value (book_in s) d p ≡ false
    scan_over e =
        scan.left ∙ ap (λ (k : ℕ). any (supports v p) (drop k cs)) (e ∙ scan.counted)
        ∙ ap (any (supports v p)) (drop-length cs)

    module _ (more : i < count) where
      within : i < length cs
      within = omega (arith, scan.counted)

      abbrev clause : Clause
      clause = get_or cs i no_clause

      pub scan_clause : Clausal s place clause
      scan_clause = clausal s place clause (stands_at (sym scan.here) ((shows s accepts).clause i within))

      split : drop i cs ≡ clause ∷ drop (suc i) cs
      split = drop-cons cs i no_clause within

      -- on behind this clause, where the rest decides
      pub scan_behind : (end : ℕ) → end ≡ place + 2 + field_at s place → value (book_in s) d p ≡ any (supports v p) (drop (suc i) cs) → Scan s d p count end (i + 1)
      unfolding skip
      scan_behind end e rest =
          let one : suc i ≡ i + 1 = sym (add-one i) in
          record {
            counted = scan.counted;
            here = e ∙ ap (λ (k : ℕ). k + 2 + field_at s k) scan.here ∙ ap (clause_place s) one;
            left = rest ∙ ap (λ (k : ℕ). any (supports v p) (drop k cs)) one;
          }

      -- a clause for another atom
      pub scan_other : (end : ℕ) → end ≡ place + 2 + field_at s place → (field_at s (place + 2) ≡ p → ⊥) → Scan s d p count end (i + 1)
      scan_other end e other =
          scan_behind end e
          (scan.left ∙ ap (any (supports v p)) split
          ∙ ap (λ (t : Bool). (t && all_true v clause.body) || any (supports v p) (drop (suc i) cs))
          (ne_eqb clause.head p (λ h. other (scan_clause.head ∙ h))))

      -- a clause for p: its literals are read from the first
      pub scan_enter : (from end : ℕ) → from ≡ place + 4 → end ≡ place + 2 + field_at s place → field_at s (place + 2) ≡ p → Read s d p i (part s from end)
      scan_enter from end f e h =
          let heads : clause.head ≡ p = sym scan_clause.head ∙ h in
          let lits : lits_of (part s from end) ≡ clause.body =
          part_lits s from end (omega (arith, scan_clause.headed)) (omega (arith, scan_clause.ended)) ∙ ap₂ (lits_to s) e f ∙ scan_clause.body in
          record {
            under = subst (Every (Under s p)) (sym lits) (subst (λ (q : ℕ). Every (Under s q) clause.body) heads (under s accepts clause (get_or_in cs i no_clause within)));
            left =
                scan.left ∙ ap (any (supports v p)) split
                ∙ ap₂ (λ (t : Bool) (ls : List Lit). (t && all_true v ls) || any (supports v p) (drop (suc i) cs)) (eq-eqb clause.head p heads) (sym lits);
          }

-- ---- the literal scan

module _ (s : List ℕ) (d p i : ℕ) (rest : List ℕ) (read : Read s d p i rest) where
  pub read_over : length rest < 2 → value (book_in s) d p ≡ true
  read_over h =
      read.left
      ∙ ap (λ (ls : List Lit). all_true (value (book_in s) d) ls || any (supports (value (book_in s) d) p) (drop (suc i) (book_in s).clauses)) (lits_less rest h)

  module _ (x more : List ℕ) (split : rest ≡ x ++ more) (two : length x ≡ 2) where
    abbrev first : Lit
    first = lit_of (field_at x 0)

    lits : lits_of rest ≡ first ∷ lits_of more
    lits = lits_first rest x more split two

    pub read_under : Under s p first
    read_under = every_first (subst (Every (Under s p)) lits read.under)

    abbrev others : Bool
    others = any (supports (value (book_in s) d) p) (drop (suc i) (book_in s).clauses)

    -- the value by this literal, those behind it, and the clauses behind this one
    by : value (book_in s) d p ≡ ((true_in (value (book_in s) d) first && all_true (value (book_in s) d) (lits_of more)) || others)
    by = read.left ∙ ap (λ (ls : List Lit). all_true (value (book_in s) d) ls || others) lits

    pub read_false : true_in (value (book_in s) d) first ≡ false → value (book_in s) d p ≡ others
    read_false e = by ∙ ap (λ (t : Bool). (t && all_true (value (book_in s) d) (lits_of more)) || others) e

    pub read_true : true_in (value (book_in s) d) first ≡ true → Read s d p i more
    read_true e =
        record {
          under = every_rest (subst (Every (Under s p)) lits read.under);
          left = by ∙ ap (λ (t : Bool). (t && all_true (value (book_in s) d) (lits_of more)) || others) e;
        }
