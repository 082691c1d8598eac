-- The parts of the statements, and the records that they give.
-- Assumes nothing.
use Prim.Native.Nat.{ℕ, ◌+◌}
use native.Mathlib.Omega.{arith}
use Rattle.std.specs.Prelude.{◌≡◌, true, false, eqb}
use Rattle.std.proofs.Math.Path.{refl, sym, ap}
use Rattle.std.proofs.Common.{◌∙◌}
use mathlib.Core.List.{List, [], ◌∷◌, ◌++◌, map, append_assoc, append-nil, map-append}
use Rattle.std.proofs.Math.ListN.{length, length-append}
use Rattle.base.specs.Bools.{choose_true, choose_false}
use Rattle.base.specs.paper.Lists.{Every, flat}
use Rattle.base.specs.Lists.{every_none, every_more, every_first, every_rest, every_both}
use Rattle.base.specs.Flat.{flat_append, every_map}
use Rattle.image.specs.paper.Spell.{of_lits, of_record, of_clause}
use Rattle.spelling.specs.paper.Words.{Word, same, small, in_name, semicolon, dot, arrow, false_word, is_name}
use Rattle.spelling.specs.paper.Document.{Literal, Statement, clause, constraint, of_atom, of_literals, of_side, of_ways, of_body, of_statement, NonEmpty, LiteralsFine, WayFine, StatementFine}
use Rattle.spelling.specs.paper.Said.{number_of, lit_in, clauses_in, constraints_in}
use Rattle.spelling.specs.Codes.{semicolon_code, dot_code, arrow_code, code_of, codes_of}
use Rattle.writer.specs.Fields.{Numbers, Part, part, longer, is_end, parts_of, inside_of, starts, records_of, count_of}
use Rattle.writer.specs.EachWord.{Named, each_atom, each_literals, each_side, each_body}
use Rattle.writer.specs.OfLiterals.{Opens, open_name, open_inner, Good, GoodLiterals, rule_clause}

-- ---- the parts

-- codes among which no part ends, and an end
part_ended : (ks : List ℕ) (k : ℕ) (rest : List ℕ) → Every (λ (j : ℕ). is_end j ≡ false) ks → is_end k ≡ true → parts_of (ks ++ k ∷ rest) ≡ part ks k ∷ parts_of rest
unfolding parts_of
part_ended [] k rest o e = choose_true _ _ e
part_ended (j ∷ ks) k rest o e = choose_false _ _ (every_first o) ∙ ap (longer j) (part_ended ks k rest (every_rest o) e)

module _ (names : List Word) where
  abbrev codes : List Word → List ℕ
  codes ws = codes_of names ws

  -- the alternatives: the first, and the others
  abbrev pub way_parts : List Literal → List (List Literal) → List Part
  way_parts ls [] = part (codes (of_literals ls)) dot_code ∷ []
  way_parts ls (m ∷ to) = part (codes (of_literals ls)) semicolon_code ∷ way_parts m to

  abbrev pub ways_parts : List (List Literal) → List Part
  ways_parts [] = part (codes (false_word ∷ [])) dot_code ∷ []
  ways_parts (ls ∷ to) = way_parts ls to

  abbrev pub statement_parts : Statement → List Part
  statement_parts (clause a body) = part (codes (of_atom a ++ of_body body)) dot_code ∷ []
  statement_parts (constraint c to) = part (codes (of_side c)) arrow_code ∷ ways_parts to

  opened : (ls : List Literal) → LiteralsFine ls → Named (Opens names) ls
  opened ls f l i = open_name names l.atom.name (f l i)

  word_ended : (us : List Word) (w : Word) (k : ℕ) (ws : List Word) → Every (Opens names) us → code_of names w ≡ k → is_end k ≡ true
      → parts_of (codes (us ++ w ∷ ws)) ≡ part (codes us) k ∷ parts_of (codes ws)
  word_ended us w k ws o c e =
      ap parts_of (map-append (code_of names) us (w ∷ ws) ∙ ap (λ (j : ℕ). codes us ++ j ∷ codes ws) c)
      ∙ part_ended (codes us) k (codes ws) (every_map (λ (j : ℕ). is_end j ≡ false) (code_of names) us o) e

  parts_way : (ls : List Literal) (to : List (List Literal)) (ws : List Word) → LiteralsFine ls → Every WayFine to
      → parts_of (codes (of_literals ls ++ (flat (λ (k : List Literal). semicolon ∷ of_literals k) to ++ dot ∷ ws))) ≡ way_parts ls to ++ parts_of (codes ws)
  unfolding is_end code_of is_name same small in_name
  parts_way ls [] ws f h = word_ended (of_literals ls) dot dot_code ws (each_literals (Opens names) (open_inner names) ls (opened ls f)) refl refl
  parts_way ls (m ∷ to) ws f h =
      let rest : List Word = flat (λ (k : List Literal). semicolon ∷ of_literals k) to in
      ap (λ (z : List Word). parts_of (codes (of_literals ls ++ semicolon ∷ z))) (append_assoc (of_literals m) rest (dot ∷ ws))
      ∙ word_ended (of_literals ls) semicolon semicolon_code (of_literals m ++ (rest ++ dot ∷ ws)) (each_literals (Opens names) (open_inner names) ls (opened ls f)) refl refl
      ∙ ap (λ (ps : List Part). part (codes (of_literals ls)) semicolon_code ∷ ps) (parts_way m to ws (every_first h).1 (every_rest h))

  parts_ways : (to : List (List Literal)) (ws : List Word) → Every WayFine to → parts_of (codes (of_ways to ++ dot ∷ ws)) ≡ ways_parts to ++ parts_of (codes ws)
  unfolding is_end code_of is_name same small in_name
  parts_ways [] ws h = word_ended (false_word ∷ []) dot dot_code ws (every_more refl (every_none _)) refl refl
  parts_ways (ls ∷ to) ws h =
      ap (λ (z : List Word). parts_of (codes z)) (append_assoc (of_literals ls) (flat (λ (k : List Literal). semicolon ∷ of_literals k) to) (dot ∷ ws))
      ∙ parts_way ls to ws (every_first h).1 (every_rest h)

  parts_statement : (s : Statement) (ws : List Word) → StatementFine s → parts_of (codes (of_statement s ++ ws)) ≡ statement_parts s ++ parts_of (codes ws)
  unfolding is_end code_of is_name same small in_name
  parts_statement (clause a body) ws f =
      ap (λ (z : List Word). parts_of (codes z))
      (append_assoc (of_atom a) (of_body body ++ dot ∷ []) ws
      ∙ ap (λ (z : List Word). of_atom a ++ z) (append_assoc (of_body body) (dot ∷ []) ws)
      ∙ sym (append_assoc (of_atom a) (of_body body) (dot ∷ ws)))
      ∙ word_ended (of_atom a ++ of_body body) dot dot_code ws (every_both (each_atom (Opens names) (open_inner names) a (open_name names a.name f.0)) (each_body (Opens names) (open_inner names) body (opened body f.1))) refl refl
  parts_statement (constraint c to) ws f =
      ap (λ (z : List Word). parts_of (codes z))
      (append_assoc (of_side c) (arrow ∷ (of_ways to ++ dot ∷ [])) ws ∙ ap (λ (z : List Word). of_side c ++ arrow ∷ z) (append_assoc (of_ways to) (dot ∷ []) ws))
      ∙ word_ended (of_side c) arrow arrow_code (of_ways to ++ dot ∷ ws) (each_side (Opens names) (open_inner names) c (opened c f.0)) refl refl
      ∙ ap (λ (ps : List Part). part (codes (of_side c)) arrow_code ∷ ps) (parts_ways to ws f.1)

  pub parts_statements : (ss : List Statement) → Every StatementFine ss → parts_of (codes (flat of_statement ss)) ≡ flat statement_parts ss
  unfolding parts_of
  parts_statements [] h = refl
  parts_statements (s ∷ ss) h =
      parts_statement s (flat of_statement ss) (every_first h)
      ∙ ap (λ (ps : List Part). statement_parts s ++ ps) (parts_statements ss (every_rest h))

-- ---- the records

module _ (names final : List Word) (number : Numbers) where
  -- a statement's names are good
  abbrev pub GoodStatement : Statement → Type 0
  GoodStatement (clause a body) = Good names final number a × GoodLiterals names final number body
  GoodStatement (constraint c to) = GoodLiterals names final number c × Every (λ (ls : List Literal). NonEmpty ls × GoodLiterals names final number ls) to

  module _ (kind : ℕ) where
    -- no record starts among the alternatives
    pass_way : (last : ℕ) (ls : List Literal) (to : List (List Literal)) (ps : List Part) → eqb last dot_code ≡ false
        → (records_of number kind last (way_parts names ls to ++ ps) ≡ records_of number kind dot_code ps) × (count_of kind last (way_parts names ls to ++ ps) ≡ count_of kind dot_code ps)
    unfolding records_of count_of starts
    pass_way last ls [] ps e = (rw e, rw e (omega arith))
    pass_way last ls (m ∷ to) ps e = let i = pass_way semicolon_code m to ps refl in (rw e i.0, rw e (omega (arith, i.1)))

    pub pass_ways : (last : ℕ) (to : List (List Literal)) (ps : List Part) → eqb last dot_code ≡ false
        → (records_of number kind last (ways_parts names to ++ ps) ≡ records_of number kind dot_code ps) × (count_of kind last (ways_parts names to ++ ps) ≡ count_of kind dot_code ps)
    unfolding records_of count_of starts
    pass_ways last [] ps e = (rw e, rw e (omega arith))
    pass_ways last (ls ∷ to) ps e = pass_way last ls to ps e

  -- the clauses among the statements
  module _ (ps : List Part) where
    clause_records_lem : (s : Statement) → GoodStatement s
        → records_of number dot_code dot_code (statement_parts names s ++ ps) ≡ flat of_clause (clauses_in final s) ++ records_of number dot_code dot_code ps
    unfolding records_of inside_of starts
    clause_records_lem (clause a body) g =
        let fields : List ℕ = number_of final a.name ∷ of_lits (map (lit_in final) body) in
        ap (λ (fs : List ℕ). of_record fs ++ records_of number dot_code dot_code ps) (rule_clause names final number a body g.0 g.1)
        ∙ ap (λ (fs : List ℕ). fs ++ records_of number dot_code dot_code ps) (sym (append-nil (of_record fields)))
    clause_records_lem (constraint c to) g = (pass_ways dot_code arrow_code to ps refl).0

    clause_count_lem : (s : Statement) → count_of dot_code dot_code (statement_parts names s ++ ps) ≡ length (clauses_in final s) + count_of dot_code dot_code ps
    unfolding count_of starts
    clause_count_lem (clause a body) = refl
    clause_count_lem (constraint c to) = omega (arith, (pass_ways dot_code arrow_code to ps refl).1)

    constraint_count_lem : (s : Statement) → count_of arrow_code dot_code (statement_parts names s ++ ps) ≡ length (constraints_in final s) + count_of arrow_code dot_code ps
    unfolding count_of starts
    constraint_count_lem (clause a body) = refl
    constraint_count_lem (constraint c to) = omega (arith, (pass_ways arrow_code arrow_code to ps refl).1)

  pub clauses_records : (ss : List Statement) → Every GoodStatement ss
      → records_of number dot_code dot_code (flat (statement_parts names) ss) ≡ flat of_clause (flat (clauses_in final) ss)
  unfolding records_of
  clauses_records [] g = refl
  clauses_records (s ∷ ss) g =
      clause_records_lem (flat (statement_parts names) ss) s (every_first g)
      ∙ ap (λ (fs : List ℕ). flat of_clause (clauses_in final s) ++ fs) (clauses_records ss (every_rest g))
      ∙ sym (flat_append of_clause (clauses_in final s) (flat (clauses_in final) ss))

  pub clauses_count : (ss : List Statement) → count_of dot_code dot_code (flat (statement_parts names) ss) ≡ length (flat (clauses_in final) ss)
  unfolding count_of
  clauses_count [] = refl
  clauses_count (s ∷ ss) =
      omega (
        arith,
        clause_count_lem (flat (statement_parts names) ss) s,
        clauses_count ss,
        length-append (clauses_in final s) (flat (clauses_in final) ss),
      )

  pub constraints_count : (ss : List Statement) → count_of arrow_code dot_code (flat (statement_parts names) ss) ≡ length (flat (constraints_in final) ss)
  unfolding count_of
  constraints_count [] = refl
  constraints_count (s ∷ ss) =
      omega (
        arith,
        constraint_count_lem (flat (statement_parts names) ss) s,
        constraints_count ss,
        length-append (constraints_in final s) (flat (constraints_in final) ss),
      )
