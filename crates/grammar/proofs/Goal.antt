-- The place of the goal line is where the reader finds it: `goal_place` over the codes of the words, `place_of` over what is read.
-- Assumes nothing.
use Prim.Native.Nat.{ℕ, zero, suc, ◌+◌, ◌≤◌, ◌<◌}
use Rattle.std.proofs.Common.{arith, ◌∙◌, length-append, length-drop, eq-eqb, ne_eqb}
use Rattle.std.specs.Prelude.{◌≡◌, Bool, true, false, ◌&&◌, Option, Some, None, List, [], ◌∷◌, eqb, length, drop}
use Rattle.std.proofs.Math.Path.{refl, sym, ap}
use Rattle.base.specs.paper.Bools.{choose}
use Rattle.base.specs.Bools.{choose_false}
use Rattle.base.specs.paper.Lists.{flat}
use Rattle.spelling.specs.paper.Words.{Word, same, dot, query}
use Rattle.spelling.specs.paper.Document.{Literal, Statement, Document, of_statement, StatementFine}
use Rattle.spelling.specs.Reader.{Step, found, nothing, Walk, after, give, never, turn, next, the, side, statement, goal_line, document, Parsed, reads, unreadable, over, parse_words}
use Rattle.spelling.specs.Codes.{dot_code, query_code, codes_of}
use Rattle.spelling.proofs.Sound.{Ok, ok, none, Front, statement_ok}
use Rattle.spelling.proofs.Complete.{starts}
use Rattle.grammar.specs.Places.{side_end, statement_end, statements_end, last_dot, ends_with_goal, goal_from, goal_place, place_of}
use Rattle.grammar.proofs.PlaceLaws.{stands_not, statement_forward, none_behind, no_query}
use Rattle.grammar.proofs.Reading.{rest_of, tail, drop_next, codes_length, left_none, stands_starts, side_place, statement_place}

-- the same of what is read from a place on
abbrev place_from : ℕ → Parsed → Option ℕ
place_from at unreadable = None
place_from at (reads d) = Some (at + length (flat of_statement d.statements))

place_from_start : (r : Parsed) → place_from 0 r ≡ place_of r
place_from_start unreadable = refl
place_from_start (reads d) = ap Some (omega arith)

abbrev empty : List Word → Bool
empty [] = true
empty (w ∷ ws) = false

abbrev goal_only : List Literal → Document
goal_only ls = record { statements = []; goal = ls }

-- the words behind the goal's side are its full stop, and no more
abbrev last_word : List Word → Bool
last_word vs = starts dot vs && empty (tail vs)

abbrev stopped : Step (List Literal) → Step Document
stopped st = after (after st (λ ls vs. after (the dot vs) (λ _. give ls))) (λ ls. give (goal_only ls))

goal_read : (at : ℕ) (st : Step (List Literal)) → place_from at (over (stopped st)) ≡ choose (last_word (rest_of st)) (Some at) None
unfolding next
goal_read at nothing = refl
goal_read at (found ls []) = refl
goal_read at (found ls (x ∷ vs)) = go (same x dot) vs
  where
    go : (t : Bool) (vs : List Word)
        → place_from at (over (after (after (turn {A = Unit {0}} t (give tt) never x vs) (λ _. give ls)) (λ ls. give (goal_only ls)))) ≡ choose (t && empty vs) (Some at) None
    go false vs = refl
    go true [] = ap Some (omega arith)
    go true (y ∷ vs) = refl

abbrev more : Statement → Document → Document
more s d = record { statements = s ∷ d.statements; goal = d.goal }

-- a statement in front of a document
more_read : (at p : ℕ) (s : Statement) (st : Step Document) → p ≡ at + length (of_statement s)
    → place_from at (over (after st (λ d. give (more s d)))) ≡ place_from p (over st)
more_read at p s nothing e = refl
more_read at p s (found d (x ∷ vs)) e = refl
more_read at p s (found d []) e =
    ap Some (omega (arith, length-append (of_statement s) (flat of_statement d.statements)))

module _ (names ws : List Word) where
  abbrev codes : List ℕ
  codes = codes_of names ws

  abbrev fuel : ℕ
  fuel = length codes

  last_dot_lem : (p : ℕ) → last_dot codes p ≡ last_word (drop p ws)
  last_dot_lem p = ap (λ (t : Bool). t && eqb (p + 1) (length codes)) (stands_starts names ws dot_code p (omega arith)) ∙ go (drop p ws) refl
    where
      at_end : (vs : List Word) → drop (p + 1) ws ≡ vs → p < length codes → eqb (p + 1) (length codes) ≡ empty vs
      at_end [] e h = eq-eqb (p + 1) (length codes) (omega (arith, left_none names ws (p + 1) e))
      at_end (y ∷ vs) e h =
          ne_eqb (p + 1) (length codes) (λ q. omega (arith, q, codes_length names ws, length-drop (p + 1) ws, ap length e))

      go : (vs : List Word) → drop p ws ≡ vs → (starts dot vs && eqb (p + 1) (length codes)) ≡ last_word vs
      go [] e = refl
      go (x ∷ vs) e =
          ap (λ (t : Bool). same x dot && t)
          (at_end vs (drop_next ws p ∙ ap tail e) (omega (arith, codes_length names ws, length-drop p ws, ap length e)))

  -- where "?-" stands
  goal_here : (at : ℕ) → starts query (drop at ws) ≡ true
      → goal_from codes at ≡ place_from at (over (after (goal_line fuel (drop (at + 1) ws)) (λ ls. give (goal_only ls))))
  unfolding ends_with_goal goal_line
  goal_here at e =
      ap (λ (t : Bool). choose (t && last_dot codes end) (Some at) None) (stands_starts names ws query_code at (omega arith) ∙ e)
      ∙ ap (λ (t : Bool). choose t (Some at) None) (last_dot_lem end ∙ ap last_word (side_place names ws (at + 1)))
      ∙ sym (goal_read at (side fuel (drop (at + 1) ws)))
    where
      end : ℕ
      end = side_end codes (at + 1)

  -- no goal line stands at the end of the words
  no_goal : (at : ℕ) → length codes ≤ at → goal_from codes at ≡ None
  no_goal at h = choose_false (Some at) None (no_query codes at (stands_not codes query_code at (omega arith) h))

  document_place : (n at : ℕ) → at ≤ length codes → goal_from codes (statements_end codes n at) ≡ place_from at (over (document fuel n (drop at ws)))
  unfolding statements_end document next
  document_place zero at h = no_goal (length codes) (omega arith)
  document_place (suc n) at h =
      ap (λ (t : Bool). goal_from codes (choose t at (statements_end codes n end))) (stands_starts names ws query_code at (omega arith))
      ∙ go (document_place n (statement_end codes at) ((statement_forward codes).within at)) (drop at ws) refl
    where
      end : ℕ
      end = statement_end codes at

      Later : Type 0
      Later = goal_from codes (statements_end codes n end) ≡ place_from end (over (document fuel n (drop end ws)))

      goal : Walk Document
      goal vs = after (goal_line fuel vs) (λ ls. give (goal_only ls))

      others : Statement → Walk Document
      others s vs = after (document fuel n vs) (λ d. give (more s d))

      behind : Later → (vs : List Word) (st : Step Statement) → drop at ws ≡ vs → drop end ws ≡ rest_of st → Ok (Front of_statement StatementFine vs) st
          → goal_from codes (statements_end codes n end) ≡ place_from at (over (after st others))
      behind later vs st is e none =
          let last : length codes ≡ end = omega (arith, (statement_forward codes).within at, left_none names ws end e) in
          ap (goal_from codes) (none_behind codes n end last) ∙ no_goal end (omega arith)
      behind later vs st is e (ok {x = s} {rest = rest} p) =
          later
          ∙ ap (λ (us : List Word). place_from end (over (document fuel n us))) e
          ∙ sym (more_read at end s (document fuel n rest)
          (omega (
            arith,
            (statement_forward codes).within at,
            codes_length names ws,
            length-drop at ws,
            length-drop end ws,
            ap length e,
            ap length is,
            ap length p.0,
            length-append (of_statement s) rest,
          )))

      go : Later → (vs : List Word) → drop at ws ≡ vs
          → goal_from codes (choose (starts query vs) at (statements_end codes n end)) ≡ place_from at (over (document fuel (suc n) vs))
      go later [] is = behind later [] (statement fuel []) is (statement_place names ws at ∙ ap (λ (us : List Word). rest_of (statement fuel us)) is) (statement_ok fuel [])
      go later (x ∷ vs) is = turned (same x query) refl
        where
          turned : (t : Bool) → same x query ≡ t
              → goal_from codes (choose t at (statements_end codes n end)) ≡ place_from at (over (turn t goal (λ us. after (statement fuel us) others) x vs))
          turned true e =
              goal_here at (ap (starts query) is ∙ e) ∙ ap (λ (us : List Word). place_from at (over (goal us))) (drop_next ws at ∙ ap tail is)
          turned false e =
              behind later (x ∷ vs) (statement fuel (x ∷ vs)) is (statement_place names ws at ∙ ap (λ (us : List Word). rest_of (statement fuel us)) is)
              (statement_ok fuel (x ∷ vs))

pub goal_placed : (names ws : List Word) → goal_place (codes_of names ws) ≡ place_of (parse_words ws)
unfolding goal_place
goal_placed names ws =
    document_place names ws (length (codes_of names ws)) 0 (omega arith)
    ∙ ap (λ (n : ℕ). place_from 0 (over (document n n ws))) (codes_length names ws)
    ∙ place_from_start (parse_words ws)
