-- The records of the constraints among the statements.
-- Assumes nothing.
use Prim.Native.Nat.{ℕ}
use Rattle.std.specs.Prelude.{◌≡◌}
use Rattle.std.proofs.Math.Path.{refl, sym, ap, ap₂}
use Rattle.std.proofs.Common.{◌∙◌}
use mathlib.Core.List.{List, [], ◌∷◌, ◌++◌, map, append-nil}
use Rattle.std.proofs.Math.ListN.{length, length-map}
use Rattle.base.specs.paper.Lists.{Every, flat}
use Rattle.base.specs.Lists.{every_first, every_rest}
use Rattle.base.specs.Flat.{flat_append}
use Rattle.image.specs.paper.Spell.{of_lits, of_alternative, of_record, of_constraint}
use Rattle.spelling.specs.paper.Words.{Word, same, small, in_name, is_name}
use Rattle.spelling.specs.paper.Document.{Literal, Statement, clause, constraint, of_literals, of_side, NonEmpty}
use Rattle.spelling.specs.paper.Said.{lit_in, constraints_in}
use Rattle.spelling.specs.Codes.{dot_code, arrow_code, code_of, codes_of}
use Rattle.writer.specs.Fields.{Numbers, sign_after, names_from, Part, lits_of, way_of, ways_of, inside_of, starts, records_of}
use Rattle.writer.specs.OfLiterals.{GoodLiterals, lits_literals, lits_side}
use Rattle.writer.specs.OfStatements.{way_parts, ways_parts, statement_parts, GoodStatement, pass_ways}

module _ (names final : List Word) (number : Numbers) where
  abbrev GoodWay : List Literal → Type 0
  GoodWay ls = NonEmpty ls × GoodLiterals names final number ls

  way_fields : (ls : List Literal) → GoodWay ls → way_of (lits_of number (codes_of names (of_literals ls))) ≡ of_alternative (map (lit_in final) ls)
  way_fields [] g = absurd g.0
  way_fields (l ∷ ls) g =
      ap way_of (lits_literals names final number (l ∷ ls) g.1)
      ∙ ap (λ (n : ℕ). n ∷ of_lits (map (lit_in final) (l ∷ ls))) (length-map (map (lit_in final) (l ∷ ls)) _)

  ways_way : (ls : List Literal) (to : List (List Literal)) (ps : List Part) → GoodWay ls → Every GoodWay to
      → ways_of number (way_parts names ls to ++ ps) ≡ flat of_alternative (map (map (lit_in final)) (ls ∷ to))
  unfolding ways_of
  ways_way ls [] ps g h = ap (λ (z : List ℕ). z ++ []) (way_fields ls g)
  ways_way ls (m ∷ to) ps g h = ap₂ (λ (y z : List ℕ). y ++ z) (way_fields ls g) (ways_way m to ps (every_first h) (every_rest h))

  ways_ways : (to : List (List Literal)) (ps : List Part) → Every GoodWay to → ways_of number (ways_parts names to ++ ps) ≡ flat of_alternative (map (map (lit_in final)) to)
  unfolding ways_of names_from sign_after code_of is_name same small in_name
  ways_ways [] ps h = refl
  ways_ways (ls ∷ to) ps h = ways_way ls to ps (every_first h) (every_rest h)

  module _ (ps : List Part) where
    constraint_records_lem : (s : Statement) → GoodStatement names final number s
        → records_of number arrow_code dot_code (statement_parts names s ++ ps) ≡ flat of_constraint (constraints_in final s) ++ records_of number arrow_code dot_code ps
    unfolding records_of inside_of starts
    constraint_records_lem (clause a body) g = refl
    constraint_records_lem (constraint c to) g =
        let count : length (lits_of number (codes_of names (of_side c))) ≡ length (map (lit_in final) c) = ap length (lits_side names final number c g.0) ∙ length-map (map (lit_in final) c) _ in
        let fields : List ℕ = of_alternative (map (lit_in final) c) ++ flat of_alternative (map (map (lit_in final)) to) in
        let inside = ap₂ (λ (x : ℕ) (fs : List ℕ). x ∷ fs) count (lits_side names final number c g.0) in
        ap₂ (λ (y z : List ℕ). of_record y ++ z) (ap₂ (λ (y z : List ℕ). y ++ z) inside (ways_ways to ps g.1)) (pass_ways names final number arrow_code arrow_code to ps refl).0
        ∙ ap (λ (fs : List ℕ). fs ++ records_of number arrow_code dot_code ps) (sym (append-nil (of_record fields)))

  pub constraints_records : (ss : List Statement) → Every (GoodStatement names final number) ss
      → records_of number arrow_code dot_code (flat (statement_parts names) ss) ≡ flat of_constraint (flat (constraints_in final) ss)
  unfolding records_of
  constraints_records [] g = refl
  constraints_records (s ∷ ss) g =
      constraint_records_lem (flat (statement_parts names) ss) s (every_first g)
      ∙ ap (λ (fs : List ℕ). flat of_constraint (constraints_in final s) ++ fs) (constraints_records ss (every_rest g))
      ∙ sym (flat_append of_constraint (constraints_in final s) (flat (constraints_in final) ss))
