-- The codes of a document's words before its goal line, and behind its `?-`.
-- Assumes nothing.
use Rattle.std.specs.Prelude.{ℕ, ◌+◌, ◌≡◌, refl, take, drop}
use Rattle.std.proofs.Common.{sym, ap, ◌∙◌, take_at}
use mathlib.Core.List.{List, [], ◌∷◌, ◌++◌, map-append}
use Rattle.std.proofs.Math.ListN.{length}
use Rattle.std.proofs.lemmas.List.{length-map}
use Rattle.std.proofs.Math.Seq.{drop-append-add}
use Rattle.base.specs.paper.Lists.{flat}
use Rattle.image.specs.paper.Spell.{words, encode}
use Rattle.spelling.specs.paper.Words.{Word, query, dot}
use Rattle.spelling.specs.paper.Document.{Atom, Statement, Document, of_side, of_statement, of_document}
use Rattle.spelling.specs.paper.Said.{number_of, book_of}
use Rattle.spelling.specs.paper.Answer.{image_of}
use Rattle.spelling.specs.Codes.{code_of, codes_of}
use Rattle.writer.specs.Fields.{Numbers, framed}

-- where the goal line starts
abbrev pub goal_place : Document → ℕ
goal_place d = length (flat of_statement d.statements)

module _ (names final : List Word) (number : Numbers) where
  -- its place among the names leads to the atom's number
  abbrev pub Numbered : Atom → Type 0
  Numbered a = number (number_of names a.name) ≡ number_of final a.name

module _ (d : Document) (names : List Word) where
  abbrev ss : List Statement
  ss = d.statements

  abbrev codes : List ℕ
  codes = codes_of names (of_document d)

  abbrev goal_line : List Word
  goal_line = of_side d.goal ++ dot ∷ []

  split : codes ≡ codes_of names (flat of_statement ss) ++ codes_of names (query ∷ goal_line)
  split = map-append (code_of names) (flat of_statement ss) (query ∷ goal_line)

  size : length (codes_of names (flat of_statement ss)) ≡ goal_place d
  size = length-map (flat of_statement ss) (code_of names)

  pub before : take (goal_place d) codes ≡ codes_of names (flat of_statement ss)
  before = ap (take (goal_place d)) split ∙ take_at (codes_of names (flat of_statement ss)) (codes_of names (query ∷ goal_line)) (goal_place d) size

  pub behind : drop (goal_place d + 1) codes ≡ codes_of names goal_line
  behind =
      ap (drop (goal_place d + 1)) split
      ∙ ap (λ (n : ℕ). drop (n + 1) (codes_of names (flat of_statement ss) ++ codes_of names (query ∷ goal_line))) (sym size)
      ∙ drop-append-add (codes_of names (flat of_statement ss)) (codes_of names (query ∷ goal_line)) 1

pub framed_words : (d : Document) → framed (words (book_of d)) ≡ image_of d
unfolding framed encode
framed_words d = refl
