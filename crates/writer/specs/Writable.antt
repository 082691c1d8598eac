-- For a caller that knows the document: its codes are as the writer requires, and the room for its image.
-- Assumes nothing.
use Rattle.std.specs.Prelude.{ℕ, zero, suc, ◌+◌, ◌*◌, ◌<◌, ◌≡◌, refl, Bool, List, [], ◌∷◌, ◌++◌, length, drop}
use native.Mathlib.Omega.{arith}
use Rattle.std.proofs.Common.{sym, ◌∙◌, append_assoc, length-append}
use Rattle.std.proofs.Math.Path.{subst}
use Rattle.std.proofs.Math.Bool.{true, false}
use Rattle.std.proofs.lemmas.List.{map-append, length-map}
use Rattle.base.specs.paper.Bools.{choose}
use Rattle.base.specs.Bools.{clash, either_left, either_right}
use Rattle.base.specs.paper.Lists.{◌∈◌, Every, any, flat}
use Rattle.base.specs.Lists.{every_first, every_rest, any_append}
use Rattle.image.specs.paper.Front.{atoms_at}
use Rattle.spelling.specs.paper.Words.{Word, same, small, in_name, arrow, dot, query, is_name}
use Rattle.spelling.specs.paper.Document.{Atom, Statement, clause, constraint, Document, of_atom, of_side, of_ways, of_body, of_statement, of_document}
use Rattle.spelling.specs.paper.Said.{mentions, number_of}
use Rattle.spelling.specs.paper.Answer.{longest_text}
use Rattle.spelling.specs.Codes.{fixed_words, first_name, code_of, codes_of}
use Rattle.spelling.proofs.Numbering.{number_most}
use Rattle.writer.specs.Fields.{is_end}
use Rattle.writer.specs.Due.{Known, Statements}
use Rattle.writer.specs.EachWord.{each_word}
use Rattle.writer.specs.OfDocument.{goal_place, before}
use Rattle.writer.specs.Room.{own_fields}

-- ---- every part ends

-- from each place on there is an end
abbrev Ended : List ℕ → Type 0
Ended l = (i : ℕ) → i < length l → any is_end (drop i l) ≡ true

ended_last : (l : List ℕ) (k : ℕ) → is_end k ≡ true → Ended (l ++ k ∷ [])
ended_last [] k e zero h = either_left (is_end k) false e
ended_last [] k e (suc i) h = absurd (omega (arith, h))
ended_last (j ∷ l) k e zero h = either_right (is_end j) (any is_end (l ++ k ∷ [])) (ended_last l k e 0 (omega (arith, length-append l (k ∷ []))))
ended_last (j ∷ l) k e (suc i) h = ended_last l k e i (omega (arith, h))

ended_both : (l m : List ℕ) → Ended l → Ended m → Ended (l ++ m)
ended_both [] m p q i h = q i h
ended_both (k ∷ l) m p q zero h = any_append is_end (k ∷ l) m ∙ either_left (any is_end (k ∷ l)) (any is_end m) (p zero (omega arith))
ended_both (k ∷ l) m p q (suc i) h = ended_both l m (λ j r. p (suc j) (omega (arith, r))) q i (omega (arith, h))

module _ (names : List Word) where
  ended_words : (us : List Word) → Ended (codes_of names (us ++ dot ∷ []))
  unfolding is_end code_of is_name same small in_name
  ended_words us = subst Ended (sym (map-append (code_of names) us (dot ∷ []))) (ended_last (codes_of names us) (code_of names dot) refl)

  ended_statement : (s : Statement) → Ended (codes_of names (of_statement s))
  ended_statement (clause a body) =
      subst (λ (z : List Word). Ended (codes_of names z)) (append_assoc (of_atom a) (of_body body) (dot ∷ [])) (ended_words (of_atom a ++ of_body body))
  ended_statement (constraint c to) =
      subst (λ (z : List Word). Ended (codes_of names z)) (append_assoc (of_side c) (arrow ∷ of_ways to) (dot ∷ [])) (ended_words (of_side c ++ arrow ∷ of_ways to))

  ended_statements : (ss : List Statement) → Ended (codes_of names (flat of_statement ss))
  ended_statements [] = λ i h. absurd (omega (arith, h))
  ended_statements (s ∷ ss) =
      subst Ended (sym (map-append (code_of names) (of_statement s) (flat of_statement ss)))
      (ended_both (codes_of names (of_statement s)) (codes_of names (flat of_statement ss)) (ended_statement s) (ended_statements ss))

  -- ---- every name has a number

  known_word : (w : Word) (n : ℕ) → (is_name w ≡ true → number_of names w < n) → code_of names w < first_name + n
  unfolding code_of
  known_word w n h = go (is_name w) h
    where
      go : (t : Bool) → (t ≡ true → number_of names w < n) → choose t (first_name + number_of names w) (number_of fixed_words w) < first_name + n
      go true k = omega (arith, k refl)
      go false k = omega (arith, number_most fixed_words w)

  known_words : (ws : List Word) (numbers : List ℕ) → Every (λ (w : Word). is_name w ≡ true → number_of names w < length numbers) ws → Known (codes_of names ws) numbers
  known_words [] numbers h i = omega arith
  known_words (w ∷ ws) numbers h zero = known_word w (length numbers) (every_first h)
  known_words (w ∷ ws) numbers h (suc i) = known_words ws numbers (every_rest h) i

-- the codes of a document are as the writer requires
pub codes_due : (d : Document) (names : List Word) (numbers : List ℕ) → ((a : Atom) → a ∈ mentions d → number_of names a.name < length numbers)
    → Statements (codes_of names (of_document d)) (goal_place d) numbers
unfolding is_name same small in_name
codes_due d names numbers h =
    let rest : List Word = query ∷ (of_side d.goal ++ dot ∷ []) in
    record {
      within =
          omega (arith, length-map (of_document d) (code_of names), length-append (flat of_statement d.statements) rest);
      closed = λ i k.
          subst (λ (l : List ℕ). any is_end (drop i l) ≡ true) (sym (before d names))
          (ended_statements names d.statements i (omega (arith, k, length-map (flat of_statement d.statements) (code_of names))));
      known = known_words names (of_document d) numbers
          (each_word _ (record { abds = no; nafs = no; closes = no; commas = no; necks = no; trues = no; falses = no }) (record { semicolons = no; dots = no; arrows = no; queries = no }) d (λ a i _. h a i));
    }
  where
    no : {n m : ℕ} → false ≡ true → n < m
    no e = clash refl (sym e)

-- ---- room

-- the most bytes that the image of a text has
abbrev pub image_room : ℕ
image_room = atoms_at + 2 * (own_fields + longest_text)
