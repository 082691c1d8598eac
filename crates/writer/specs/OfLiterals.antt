-- The fields that the codes of a list of literals give are those of the literals; and no part ends among these codes.
-- Assumes nothing.
use Rattle.std.specs.Prelude.{ℕ, ◌+◌, ◌-◌, ◌*◌, ◌≡◌, Bool}
use native.Mathlib.Omega.{arith}
use Rattle.std.proofs.Math.Path.{refl, ap}
use Rattle.std.proofs.Common.{sym, ◌∙◌}
use Rattle.std.proofs.Math.Bool.{true, false}
use mathlib.Core.List.{List, [], ◌∷◌, ◌++◌, map, append_assoc, append-nil}
use borrow.Author.Tests.{le-leb, lt-leb}
use Rattle.base.specs.Bools.{choose_true}
use Rattle.base.specs.paper.Lists.{Every, flat}
use Rattle.base.specs.Lists.{every_first, every_rest}
use Rattle.image.specs.paper.Spell.{of_lit, of_lits}
use Rattle.spelling.specs.paper.Words.{Word, same, small, in_name, close, comma, dot, is_name}
use Rattle.spelling.specs.paper.Document.{Atom, Literal, of_atom, of_literal, of_literals, of_side, of_body}
use Rattle.spelling.specs.paper.Said.{number_of, lit_in}
use Rattle.spelling.specs.Reader.{atom_of, literal_of}
use Rattle.spelling.specs.Codes.{semicolon_code, arrow_code, first_name, code_of, codes_of}
use Rattle.writer.specs.Fields.{Numbers, head_factor, literal_factor, negated, sign_after, names_from, rule_of, lits_of, is_end}
use Rattle.writer.specs.Names.{names_name}
use Rattle.writer.specs.EachWord.{Inner}

pub code_name : (names : List Word) (n : Word) → is_name n ≡ true → code_of names n ≡ first_name + number_of names n
unfolding code_of
code_name names n h = choose_true _ _ h

-- ---- no end among them

module _ (names : List Word) where
  abbrev pub Opens : Word → Type 0
  Opens w = is_end (code_of names w) ≡ false

  pub open_name : (n : Word) → is_name n ≡ true → Opens n
  unfolding is_end
  open_name n h = ap is_end (code_name names n h) ∙ rw (le-leb semicolon_code (first_name + number_of names n) (omega arith), lt-leb (first_name + number_of names n) arrow_code (omega arith))

  pub open_inner : Inner Opens
  unfolding is_end code_of is_name same small in_name
  open_inner = record { abds = refl; nafs = refl; closes = refl; commas = refl; necks = refl; trues = refl; falses = refl }

-- ---- the fields

module _ (names final : List Word) (number : Numbers) where
  -- the name is one, and its place among the names leads to its number
  abbrev pub Good : Atom → Type 0
  Good a = (is_name a.name ≡ true) × (number (number_of names a.name) ≡ number_of final a.name)

  abbrev pub GoodLiterals : List Literal → Type 0
  GoodLiterals ls = Every (λ (l : Literal). Good l.atom) ls

  abbrev codes : List Word → List ℕ
  codes ws = codes_of names ws

  abbrev after : List Word → List ℕ
  after ws = names_from number literal_factor 0 (codes_of names ws)

  name_fields : (factor sign : ℕ) (a : Atom) (ks : List ℕ) → Good a
      → names_from number factor sign (code_of names a.name ∷ ks) ≡ (factor * number_of final a.name + sign) ∷ names_from number literal_factor 0 ks
  name_fields factor sign a ks g =
      let n : ℕ = number_of names a.name in
      let back : first_name + n - first_name ≡ n = omega arith in
      ap (λ (k : ℕ). names_from number factor sign (k ∷ ks)) (code_name names a.name g.0)
      ∙ names_name number factor sign (first_name + n) ks (omega arith)
      ∙ ap (λ (m : ℕ). (factor * number m + sign) ∷ names_from number literal_factor 0 ks) back
      ∙ ap (λ (m : ℕ). (factor * m + sign) ∷ names_from number literal_factor 0 ks) g.1

  atom_fields : (factor sign : ℕ) (a : Atom) (ws : List Word) → Good a
      → names_from number factor sign (codes (of_atom a ++ ws)) ≡ (factor * number_of final a.name + sign) ∷ after ws
  unfolding names_from sign_after code_of is_name same small in_name
  atom_fields factor sign a ws g = go a.marked
    where
      go : (t : Bool) → names_from number factor sign (codes (of_atom (atom_of a.name t) ++ ws)) ≡ (factor * number_of final a.name + sign) ∷ after ws
      go true = name_fields factor sign a (codes (close ∷ ws)) g
      go false = name_fields factor sign a (codes ws) g

  literal_fields : (l : Literal) (ws : List Word) → Good l.atom → after (of_literal l ++ ws) ≡ of_lit (lit_in final l) ∷ after ws
  unfolding names_from sign_after code_of is_name same small in_name
  literal_fields l ws g = go l.sign
    where
      go : (t : Bool) → after (of_literal (literal_of l.atom t) ++ ws) ≡ of_lit (lit_in final (literal_of l.atom t)) ∷ after ws
      go true = atom_fields literal_factor 0 l.atom ws g
      go false =
          ap (λ (z : List Word). names_from number literal_factor negated (codes z)) (append_assoc (of_atom l.atom) (close ∷ []) ws)
          ∙ atom_fields literal_factor negated l.atom (close ∷ ws) g

  others_fields : (ls : List Literal) (ws : List Word) → GoodLiterals ls
      → after (flat (λ (k : Literal). comma ∷ of_literal k) ls ++ ws) ≡ of_lits (map (lit_in final) ls) ++ after ws
  unfolding names_from sign_after code_of is_name same small in_name
  others_fields [] ws g = refl
  others_fields (l ∷ ls) ws g =
      let rest : List Word = flat (λ (k : Literal). comma ∷ of_literal k) ls in
      ap after (append_assoc (of_literal l) rest ws)
      ∙ literal_fields l (rest ++ ws) (every_first g)
      ∙ ap (λ (z : List ℕ). of_lit (lit_in final l) ∷ z) (others_fields ls ws (every_rest g))

  literals_fields : (ls : List Literal) (ws : List Word) → GoodLiterals ls → after (of_literals ls ++ ws) ≡ of_lits (map (lit_in final) ls) ++ after ws
  literals_fields [] ws g = refl
  literals_fields (l ∷ ls) ws g =
      let rest : List Word = flat (λ (k : Literal). comma ∷ of_literal k) ls in
      ap after (append_assoc (of_literal l) rest ws)
      ∙ literal_fields l (rest ++ ws) (every_first g)
      ∙ ap (λ (z : List ℕ). of_lit (lit_in final l) ∷ z) (others_fields ls ws (every_rest g))

  side_fields : (ls : List Literal) (ws : List Word) → GoodLiterals ls → after (of_side ls ++ ws) ≡ of_lits (map (lit_in final) ls) ++ after ws
  unfolding names_from sign_after code_of is_name same small in_name
  side_fields [] ws g = refl
  side_fields (l ∷ ls) ws g = literals_fields (l ∷ ls) ws g

  body_fields : (ls : List Literal) → GoodLiterals ls → after (of_body ls ++ []) ≡ of_lits (map (lit_in final) ls) ++ []
  unfolding names_from sign_after code_of is_name same small in_name
  body_fields [] g = refl
  body_fields (l ∷ ls) g = literals_fields (l ∷ ls) [] g

  -- a part is a list of literals; `true`, or such a list; a head with its body
  pub lits_literals : (ls : List Literal) → GoodLiterals ls → lits_of number (codes (of_literals ls)) ≡ of_lits (map (lit_in final) ls)
  unfolding names_from
  lits_literals ls g = ap after (sym (append-nil (of_literals ls))) ∙ literals_fields ls [] g ∙ append-nil (of_lits (map (lit_in final) ls))

  pub lits_side : (ls : List Literal) → GoodLiterals ls → lits_of number (codes (of_side ls)) ≡ of_lits (map (lit_in final) ls)
  unfolding names_from
  lits_side ls g = ap after (sym (append-nil (of_side ls))) ∙ side_fields ls [] g ∙ append-nil (of_lits (map (lit_in final) ls))

  -- the goal line behind its `?-`
  pub lits_goal : (ls : List Literal) → GoodLiterals ls → lits_of number (codes (of_side ls ++ dot ∷ [])) ≡ of_lits (map (lit_in final) ls)
  unfolding names_from sign_after code_of is_name same small in_name
  lits_goal ls g = side_fields ls (dot ∷ []) g ∙ append-nil (of_lits (map (lit_in final) ls))

  pub rule_clause : (a : Atom) (ls : List Literal) → Good a → GoodLiterals ls → rule_of number (codes (of_atom a ++ of_body ls)) ≡ number_of final a.name ∷ of_lits (map (lit_in final) ls)
  unfolding names_from
  rule_clause a ls g h =
      let one : head_factor * number_of final a.name + 0 ≡ number_of final a.name = omega arith in
      atom_fields head_factor 0 a (of_body ls) g
      ∙ ap (λ (m : ℕ). m ∷ after (of_body ls)) one
      ∙ ap (λ (z : List ℕ). number_of final a.name ∷ z) (ap after (sym (append-nil (of_body ls))) ∙ body_fields ls h ∙ append-nil (of_lits (map (lit_in final) ls)))
