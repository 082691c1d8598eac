-- The image of the book that a text says is read back as that book, or refused under 5, 7 or 9: no other number of paper 01, 4.1 can come.
-- Assumes nothing.
use Rattle.std.specs.Prelude.{ℕ, ◌*◌, ◌/◌, ◌%◌, ◌<◌, ◌≡◌, refl, Bool, true, false, List, [], ◌∷◌, ◌++◌, map, length}
use Rattle.std.proofs.Common.{arith, sym, subst, length-append}
use Rattle.base.specs.paper.Bools.{choose}
use Rattle.base.specs.paper.Lists.{Every, flat}
use Rattle.base.specs.Lists.{every_none, every_more, every_first, every_rest, every_left, every_right}
use Rattle.image.specs.paper.Book.{Book}
use Rattle.image.specs.paper.Walk.{Step, fine, field_at, field_values}
use Rattle.image.specs.paper.Front.{version, atoms_at}
use Rattle.image.specs.paper.Faults.{limits}
use Rattle.image.specs.paper.Loops.{loop_free}
use Rattle.image.specs.paper.Decode.{loop_place, Decoded, accepted, refused, in_order, decode, whole, length_field}
use Rattle.image.specs.paper.Spell.{two, encode, words as fields}
use Rattle.image.specs.Finds.{Named, AlternativeFine, ConstraintFine}
use Rattle.image.specs.Written.{fine_front}
use Rattle.image.specs.Encode.{Field, length_two, stands_two}
use Rattle.spelling.specs.paper.Words.{Word}
use Rattle.spelling.specs.paper.Document.{Atom, Literal, Statement, clause, constraint, Document, WayFine, StatementFine, Fine}
use Rattle.spelling.specs.paper.Said.{atoms_in, mentions_in, abducibles, others, numbered, number_of, lit_in, clauses_in, constraints_in, book_of}
use Rattle.spelling.specs.paper.Answer.{Says, image_of}
use Rattle.spelling.proofs.Numbering.{known}
use Rattle.spelling.specs.Fair.{Fair, same, five, seven, Body, Told, Few, MarkedHead, fair_whole}
use Rattle.spelling.proofs.Fits.{fields_fit, fields_few}

-- ---- the book of a text is told

module _ (names : List Word) where
  abbrev Known : Atom → Type 0
  Known a = number_of names a.name < length names

  lits_named : (ls : List Literal) → Every Known (atoms_in ls) → Every (Named (length names)) (map (lit_in names) ls)
  lits_named [] h = every_none (Named (length names))
  lits_named (l ∷ ls) h = every_more (every_first h) (lits_named ls (every_rest h))

  ways_named : (to : List (List Literal)) → Every WayFine to → Every Known (flat atoms_in to) → Every (AlternativeFine (length names)) (map (map (lit_in names)) to)
  ways_named [] f h = every_none (AlternativeFine (length names))
  ways_named ([] ∷ to) f h = absurd (every_first f).0
  ways_named ((l ∷ ls) ∷ to) f h =
      every_more (record { some = omega arith; named = lits_named (l ∷ ls) (every_left (flat atoms_in to) h) })
      (ways_named to (every_rest f) (every_right (atoms_in (l ∷ ls)) h))

  clauses_told : (ss : List Statement) → Every Known (flat mentions_in ss) → Every (Body (length names)) (flat (clauses_in names) ss)
  clauses_told [] h = every_none (Body (length names))
  clauses_told (clause a body ∷ ss) h =
      let own : Every Known (a ∷ atoms_in body) = every_left (flat mentions_in ss) h in
      every_more (every_first own, lits_named body (every_rest own)) (clauses_told ss (every_right (a ∷ atoms_in body) h))
  clauses_told (constraint c to ∷ ss) h = clauses_told ss (every_right (atoms_in c ++ flat atoms_in to) h)

  constraints_told : (ss : List Statement) → Every StatementFine ss → Every Known (flat mentions_in ss) → Every (ConstraintFine (length names)) (flat (constraints_in names) ss)
  constraints_told [] f h = every_none (ConstraintFine (length names))
  constraints_told (clause a body ∷ ss) f h = constraints_told ss (every_rest f) (every_right (a ∷ atoms_in body) h)
  constraints_told (constraint c to ∷ ss) f h =
      let own : Every Known (atoms_in c ++ flat atoms_in to) = every_left (flat mentions_in ss) h in
      every_more
      (record { named = lits_named c (every_left (flat atoms_in to) own); ways = ways_named to (every_first f).1 (every_right (atoms_in c) own) })
      (constraints_told ss (every_rest f) (every_right (atoms_in c ++ flat atoms_in to) h))

pub book_told : (d : Document) → Fine d → Told (book_of d)
book_told d f =
    let all : Every (Known (numbered d)) (flat mentions_in d.statements ++ atoms_in d.goal) = known d in
    let own : Every (Known (numbered d)) (flat mentions_in d.statements) = every_left (atoms_in d.goal) all in
    record {
      among = omega (arith, length-append (abducibles d) (others d));
      goal = lits_named (numbered d) d.goal (every_right (flat mentions_in d.statements) all);
      clauses = clauses_told (numbered d) d.statements own;
      constraints = constraints_told (numbered d) d.statements f.0 own;
    }

-- ---- so its image is read back, or refused under 5, 7 or 9

pub data Outcome (b : Book) : Decoded → Type 0 where
  back : Outcome b (accepted b)
  limit : (Few limits b → ⊥) → {at : ℕ} → Outcome b (refused 5 at)
  head : MarkedHead b → {at : ℕ} → Outcome b (refused 7 at)
  loop : loop_free b ≡ false → Outcome b (refused 9 (loop_place b))

pub decode_only : (b : Book) → Told b → Every Field (fields b) → 2 * length (fields b) < field_values * field_values → Outcome b (decode (encode b))
unfolding decode in_order encode length_field field_at
decode_only b t h few =
    let n : ℕ = 2 * length (fields b) in
    let pre : List ℕ = version ∷ two (n / field_values) ++ two (n % field_values) in
    let long : length (flat two (fields b)) ≡ n = length_two (fields b) in
    let front = fine_front (encode b) (record { long = omega arith; version = refl; size = omega arith }) in
    subst (λ f. Outcome b (in_order (encode b) f (whole (encode b) limits atoms_at))) (sym front)
    (go (whole (encode b) limits atoms_at) (fair_whole (encode b) limits b t (stands_two pre (fields b) h) (omega arith)))
  where
    free : (q : Bool) → loop_free b ≡ q → Outcome b (choose q (accepted b) (refused 9 (loop_place b)))
    free true e = back
    free false e = loop e

    go : {next : ℕ} (st : Step Book) → Fair (Few limits b) (MarkedHead b) b next st → Outcome b (in_order (encode b) fine st)
    go st same = free (loop_free b) refl
    go st (five h) = limit h
    go st (seven h) = head h

-- the image of what a text says is read back as the book that the text says, or refused under 5, 7 or 9
pub text_only : (text : List ℕ) (d : Document) → Says text d → Outcome (book_of d) (decode (image_of d))
text_only text d s = decode_only (book_of d) (book_told d s.1.1) (fields_fit text d s) (fields_few text d s)
