-- The image by the codes of a document's words is the document's image.
-- Assumes nothing.
use Rattle.std.specs.Prelude.{ℕ, ◌+◌, ◌≡◌, get_or, take, drop}
use Rattle.std.proofs.Common.{ap, ◌∙◌}
use Rattle.std.proofs.Math.Path.{ap₂}
use mathlib.Core.List.{List, ◌∷◌, ◌++◌, map}
use Rattle.std.proofs.Math.ListN.{length}
use Rattle.std.proofs.lemmas.List.{length-map}
use Rattle.base.specs.paper.Lists.{◌∈◌, Every, flat}
use Rattle.base.specs.Lists.{every_first, every_rest, every_left, every_right}
use Rattle.base.specs.Flat.{∈_map, ∈_flat}
use Rattle.image.specs.paper.Spell.{of_lits, of_alternative, of_clause, of_constraint, words}
use Rattle.spelling.specs.paper.Words.{Word}
use Rattle.spelling.specs.paper.Document.{Atom, Literal, Statement, clause, constraint, Document, of_statement, of_document, LiteralsFine, StatementFine, Fine}
use Rattle.spelling.specs.paper.Said.{atoms_in, mentions_in, mentions, abducibles, numbered, number_of, lit_in, clauses_in, constraints_in, book_of}
use Rattle.spelling.specs.paper.Answer.{image_of}
use Rattle.spelling.specs.Codes.{dot_code, arrow_code, codes_of}
use Rattle.writer.specs.Fields.{Numbers, number_in, lits_of, counted, parts_of, statements_of, fields_by, framed, image_by}
use Rattle.writer.specs.OfLiterals.{GoodLiterals, lits_goal}
use Rattle.writer.specs.OfStatements.{statement_parts, GoodStatement, parts_statements, clauses_records, clauses_count, constraints_count}
use Rattle.writer.proofs.OfStatements.{constraints_records}
use Rattle.writer.specs.OfDocument.{goal_place, Numbered, before, behind, framed_words}

module _ (names final : List Word) (number : Numbers) where
  good_literals : (ls : List Literal) → LiteralsFine ls → Every (Numbered names final number) (atoms_in ls) → GoodLiterals names final number ls
  good_literals ls f h l i = (f l i, h l.atom (∈_map (λ (k : Literal). k.atom) i))

  good_statement : (s : Statement) → StatementFine s → Every (Numbered names final number) (mentions_in s) → GoodStatement names final number s
  good_statement (clause a body) f h = ((f.0, every_first h), good_literals body f.1 (every_rest h))
  good_statement (constraint c to) f h = (
    good_literals c f.0 (every_left (flat atoms_in to) h),
    λ ls i. ((f.1 ls i).0, good_literals ls (f.1 ls i).1 (λ a j. every_right (atoms_in c) h a (∈_flat atoms_in to i j))),
  )

  good_statements : (ss : List Statement) → Every StatementFine ss → Every (Numbered names final number) (flat mentions_in ss) → Every (GoodStatement names final number) ss
  good_statements ss f h s i = good_statement s (f s i) (λ a j. h a (∈_flat mentions_in ss i j))

module _ (d : Document) (names : List Word) where
  abbrev ss : List Statement
  ss = d.statements

  abbrev codes : List ℕ
  codes = codes_of names (of_document d)

  module _ (number : Numbers) (fine : Fine d) (h : Every (Numbered names (numbered d) number) (mentions d)) where
    abbrev final : List Word
    final = numbered d

    parts : parts_of (take (goal_place d) codes) ≡ flat (statement_parts names) ss
    parts = ap parts_of (before d names) ∙ parts_statements names ss fine.0

    goal_fields : counted (lits_of number (drop (goal_place d + 1) codes)) ≡ of_alternative (map (lit_in final) d.goal)
    goal_fields =
        let e : lits_of number (drop (goal_place d + 1) codes) ≡ of_lits (map (lit_in final) d.goal) =
        ap (lits_of number) (behind d names) ∙ lits_goal names final number d.goal (good_literals names final number d.goal fine.1 (every_right (flat mentions_in ss) h)) in
        ap counted e ∙ ap (λ (n : ℕ). n ∷ of_lits (map (lit_in final) d.goal)) (length-map (map (lit_in final) d.goal) _)

    good : Every (GoodStatement names final number) ss
    good = good_statements names final number ss fine.0 (every_left (atoms_in d.goal) h)

    clause_fields : statements_of number dot_code (parts_of (take (goal_place d) codes)) ≡ length (flat (clauses_in final) ss) ∷ flat of_clause (flat (clauses_in final) ss)
    clause_fields =
        ap (statements_of number dot_code) parts
        ∙ ap₂ (λ (n : ℕ) (fs : List ℕ). n ∷ fs) (clauses_count names final number ss) (clauses_records names final number ss good)

    constraint_fields : statements_of number arrow_code (parts_of (take (goal_place d) codes)) ≡ length (flat (constraints_in final) ss) ∷ flat of_constraint (flat (constraints_in final) ss)
    constraint_fields =
        ap (statements_of number arrow_code) parts
        ∙ ap₂ (λ (n : ℕ) (fs : List ℕ). n ∷ fs) (constraints_count names final number ss) (constraints_records names final number ss good)

    pub fields_by_lem : fields_by number codes (goal_place d) (length (numbered d)) (length (abducibles d)) ≡ words (book_of d)
    unfolding words
    fields_by_lem =
        ap₂ (λ (g r : List ℕ). length (numbered d) ∷ length (abducibles d) ∷ (g ++ r)) goal_fields
        (ap₂ (λ (c k : List ℕ). c ++ k) clause_fields constraint_fields)

pub image_by_lem : (d : Document) (names : List Word) (numbers : List ℕ) → Fine d
    → ((a : Atom) → a ∈ mentions d → get_or numbers (number_of names a.name) 0 ≡ number_of (numbered d) a.name)
    → image_by (codes_of names (of_document d)) (length (flat of_statement d.statements)) numbers (length (numbered d)) (length (abducibles d)) ≡ image_of d
image_by_lem d names numbers fine h = ap framed (fields_by_lem d names (number_in numbers) fine h) ∙ framed_words d
