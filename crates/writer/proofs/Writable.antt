-- There is room for a document's image.
-- Assumes nothing.
use Rattle.std.specs.Prelude.{ℕ, ◌+◌, ◌*◌, ◌≤◌, ◌≡◌, refl, Bool, List, [], ◌∷◌, ◌++◌, length, get_or}
use native.Mathlib.Omega.{arith}
use Rattle.std.proofs.Common.{sym, ◌∙◌, length-append, ne_eqb}
use Rattle.std.proofs.Math.Path.{ap, subst}
use Rattle.std.proofs.Math.Bool.{true}
use Rattle.base.specs.paper.Bools.{choose}
use Rattle.base.specs.Bools.{clash}
use Rattle.base.specs.paper.Lists.{◌∈◌, Every, sum}
use Rattle.base.specs.Lists.{every_more, every_first, every_rest, every_both}
use Rattle.base.specs.Flat.{every_map, flat_∈}
use Rattle.image.specs.paper.Front.{atoms_at}
use Rattle.image.specs.paper.Spell.{words}
use Rattle.spelling.specs.paper.Words.{Word, same, small, in_name, is_name}
use Rattle.spelling.specs.paper.Document.{Atom, Literal, Statement, clause, constraint, Document, of_document, AtomFine, LiteralsFine, StatementFine, Fine}
use Rattle.spelling.specs.paper.Spelt.{Spaced}
use Rattle.spelling.specs.paper.Said.{atoms_in, mentions_in, mentions, abducibles, numbered, number_of, book_of}
use Rattle.spelling.specs.paper.Answer.{Says, image_of}
use Rattle.spelling.specs.Codes.{arrow_code, first_name, code_of, codes_of}
use Rattle.writer.specs.Fields.{image_by}
use Rattle.writer.specs.Whole.{framed_length}
use Rattle.writer.specs.OfLiterals.{code_name}
use Rattle.writer.specs.EachWord.{each_word}
use Rattle.writer.specs.OfDocument.{goal_place, framed_words}
use Rattle.writer.proofs.OfDocument.{fields_by_lem, image_by_lem}
use Rattle.writer.specs.Writable.{image_room}
use Rattle.writer.specs.Room.{weight, fields_short}

-- the names of a document are names
mentions_fine : (d : Document) → Fine d → Every AtomFine (mentions d)
mentions_fine d f = every_both (λ a i. let s = flat_∈ mentions_in d.statements i in statement s.0 (f.0 s.0 s.1) a s.2) (literals d.goal f.1)
  where
    literals : (ls : List Literal) → LiteralsFine ls → Every AtomFine (atoms_in ls)
    literals ls h = every_map AtomFine (λ (l : Literal). l.atom) ls h

    statement : (s : Statement) → StatementFine s → Every AtomFine (mentions_in s)
    statement (clause a body) h = every_more h.0 (literals body h.1)
    statement (constraint c to) h = every_both (literals c h.0) (λ a i. let s = flat_∈ atoms_in to i in literals s.0 (h.1 s.0 s.1).1 a s.2)

-- a name has a byte
name_some : (n : Word) → is_name n ≡ true → 1 ≤ length n
unfolding is_name
name_some [] h = clash refl (sym h)
name_some (b ∷ n) h = omega arith

module _ (names : List Word) where
  abbrev Heavy : Word → Type 0
  Heavy w = weight (code_of names w) ≤ length w

  heavy_name : (n : Word) → is_name n ≡ true → Heavy n
  unfolding weight
  heavy_name n h =
      let e : weight (code_of names n) ≡ 1 = ap weight (code_name names n h) ∙ ap (λ (b : Bool). choose b 2 1) (ne_eqb (first_name + number_of names n) arrow_code (λ q. omega (arith, q))) in
      omega (arith, name_some n h)

  heavy_words : (t : List ℕ) (ws : List Word) → Spaced t ws → Every Heavy ws → sum weight (codes_of names ws) ≤ length t
  heavy_words t [] s h = omega arith
  heavy_words t (w ∷ ws) s h =
      let whole : length t ≡ length (s.0 ++ (w ++ s.1)) = ap length s.3 in
      omega (arith, heavy_words s.1 ws s.4 (every_rest h), every_first h, length-append s.0 (w ++ s.1), length-append w s.1)

  heavy_document : (d : Document) → Fine d → Every Heavy (of_document d)
  unfolding weight code_of is_name same small in_name
  heavy_document d f =
      each_word Heavy
      (record { abds = omega arith; nafs = omega arith; closes = omega arith; commas = omega arith; necks = omega arith; trues = omega arith; falses = omega arith })
      (record { semicolons = omega arith; dots = omega arith; arrows = omega arith; queries = omega arith }) d (λ a i. heavy_name a.name (mentions_fine d f a i))

pub image_fits : (t : List ℕ) (d : Document) → Says t d → length (image_of d) ≤ image_room
image_fits t d (h, s) =
    let names : List Word = numbered d in
    let codes : List ℕ = codes_of names (of_document d) in
    let e : length (image_of d) ≡ atoms_at + 2 * length (words (book_of d)) = ap length (sym (framed_words d)) ∙ framed_length (words (book_of d)) in
    omega (
      arith,
      ap length (fields_by_lem d names (λ i. i) s.1 (λ a i. refl)),
      fields_short (λ i. i) codes (goal_place d) (length (numbered d)) (length (abducibles d)),
      heavy_words names t (of_document d) s.0 (heavy_document names d s.1),
    )

-- so the writer's image fits, where the names' numbers are those of the document
pub image_by_fits : (t : List ℕ) (d : Document) (names : List Word) (numbers : List ℕ) → Says t d
    → ((a : Atom) → a ∈ mentions d → get_or numbers (number_of names a.name) 0 ≡ number_of (numbered d) a.name)
    → length (image_by (codes_of names (of_document d)) (goal_place d) numbers (length (numbered d)) (length (abducibles d))) ≤ image_room
image_by_fits t d names numbers s h = subst (λ (l : List ℕ). length l ≤ image_room) (sym (image_by_lem d names numbers s.1.1 h)) (image_fits t d s)
