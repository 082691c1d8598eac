-- Each place of `Places` is where the reader's rest begins: over the codes of the words, with the reader's own fuel. Where the reader finds
-- nothing, no word is left.
-- Assumes nothing.
use Prim.Native.Nat.{ℕ, zero, suc, ◌+◌, ◌≤◌, ◌<◌}
use Rattle.std.proofs.Common.{arith, add-one, ◌∙◌, length-drop, drop_of_length-le, ne_eqb}
use Rattle.std.specs.Prelude.{◌≡◌, Bool, eqb, leb}
use Rattle.std.proofs.Math.Path.{refl, sym, ap, subst}
use Rattle.std.proofs.Math.Bool.{true, false}
use mathlib.Core.List.{List, [], ◌∷◌, ◌++◌, append-nil}
use Rattle.std.proofs.Math.ListN.{length, drop}
use Rattle.std.proofs.lemmas.List.{length-map}
use Rattle.base.specs.paper.Bools.{choose}
use Rattle.base.specs.Bools.{clash}
use Rattle.base.specs.Lists.{every_none, every_more, here}
use Rattle.spelling.specs.paper.Words.{Word, same, comma, semicolon, dot, neck, arrow, is_name}
use Rattle.spelling.specs.paper.Document.{Atom, Literal, Statement, clause, constraint, of_atom, AtomFine, of_side, LiteralsFine}
use Rattle.spelling.specs.Reader.{Step, found, nothing, Walk, after, give, never, turn, next, the, named, name, atom_of, literal_of, atom, literal, separated, literals, side, ways, from_head, from_side, statement}
use Rattle.spelling.specs.Codes.{abd_code, naf_code, close_code, comma_code, neck_code, semicolon_code, dot_code, arrow_code, true_code, false_code, other_code, first_name, code_of, codes_of}
use Rattle.spelling.specs.WordLaws.{same_true}
use Rattle.spelling.proofs.CodeLaws.{fixed_word, code_fixed, code_name}
use Rattle.spelling.proofs.Sound.{Ok, ok, none, Front, LiteralFine, atom_ok, side_ok}
use Rattle.spelling.proofs.Complete.{starts, next_other, atom_reads, side_reads}
use Rattle.grammar.specs.Places.{code_at, stands, Forward, word_end, name_end, atom_end, literal_end, separated_end, onward_end, literals_end, side_end, ways_end, conclusion_end, constraint_end, body_end, statement_end}
use Rattle.grammar.proofs.PlaceLaws.{of_choice, then_forward, word_forward, literal_forward, literals_forward, separated_forward, conclusion_forward}

-- the words behind what was found; none are left where nothing was
abbrev pub rest_of : {A : Type 0} → Step A → List Word
rest_of (found x rest) = rest
rest_of nothing = []

pub rest_give : {A B : Type 0} (st : Step A) (g : A → B) → rest_of (after st (λ x. give (g x))) ≡ rest_of st
rest_give (found x rest) g = refl
rest_give nothing g = refl

-- where the other walk leaves nothing, the word must stand there
rest_next : {A : Type 0} (v : Word) (w u : Walk A) (vs : List Word) → rest_of (u vs) ≡ [] → rest_of (next v w u vs) ≡ rest_of (after (the v vs) (λ _. w))
unfolding next
rest_next v w u [] e = e
rest_next v w u (x ∷ vs) e = go (same x v)
  where
    go : (t : Bool) → rest_of (turn t w u x vs) ≡ rest_of (after (turn {A = Unit {0}} t (give tt) never x vs) (λ _. w))
    go true = refl
    go false = e

abbrev is_found : {A : Type 0} → Step A → Type 0
is_found (found x rest) = Unit {0}
is_found nothing = ⊥

abbrev pub tail : List Word → List Word
tail [] = []
tail (w ∷ ws) = ws

-- the first word's code
abbrev code_first : List Word → List Word → ℕ
code_first names [] = other_code
code_first names (w ∷ ws) = code_of names w

drop_tail : (ws : List Word) (p : ℕ) → drop (suc p) ws ≡ tail (drop p ws)
drop_tail [] zero = refl
drop_tail [] (suc p) = refl
drop_tail (w ∷ ws) zero = refl
drop_tail (w ∷ ws) (suc p) = drop_tail ws p

pub drop_next : (ws : List Word) (p : ℕ) → drop (p + 1) ws ≡ tail (drop p ws)
drop_next ws p = ap (λ (n : ℕ). drop n ws) (add-one p) ∙ drop_tail ws p

code_first_lem : (names ws : List Word) (p : ℕ) → code_at (codes_of names ws) p ≡ code_first names (drop p ws)
unfolding code_at
code_first_lem names [] zero = refl
code_first_lem names [] (suc p) = refl
code_first_lem names (w ∷ ws) zero = refl
code_first_lem names (w ∷ ws) (suc p) = code_first_lem names ws p

pub starts_is : (v : Word) (ws : List Word) → starts v ws ≡ true → ws ≡ v ∷ tail ws
starts_is v [] e = clash refl (sym e)
starts_is v (w ∷ ws) e = ap (λ (z : Word). z ∷ ws) (same_true w v e)

module _ (names ws : List Word) where
  abbrev codes : List ℕ
  codes = codes_of names ws

  pub codes_length : length codes ≡ length ws
  codes_length = length-map ws (code_of names)

  pub none_left : (p : ℕ) → length codes ≤ p → drop p ws ≡ []
  none_left p h = drop_of_length-le ws {i = p} (omega (arith, codes_length))

  pub left_none : (p : ℕ) → drop p ws ≡ [] → length codes ≤ p
  left_none p e = omega (arith, codes_length, length-drop p ws, ap length e)

  pub stands_starts : (word p : ℕ) → word < other_code → stands codes word p ≡ starts (fixed_word word) (drop p ws)
  stands_starts word p h = ap (λ (c : ℕ). eqb c word) (code_first_lem names ws p) ∙ go (drop p ws)
    where
      go : (vs : List Word) → eqb (code_first names vs) word ≡ starts (fixed_word word) vs
      go [] = ne_eqb other_code word (λ e. omega (arith, e))
      go (w ∷ vs) = code_fixed names w word h

  -- ---- one step of the walk

  -- one walk behind the word, or another from here
  module _ {A : Type 0} (word p P Q : ℕ) (w u : Walk A) (h : word < other_code) where
    pub next_place : drop P ws ≡ rest_of (w (drop (p + 1) ws)) → drop Q ws ≡ rest_of (u (drop p ws))
        → drop (choose (stands codes word p) P Q) ws ≡ rest_of (next (fixed_word word) w u (drop p ws))
    unfolding next
    next_place f g =
        ap (λ (t : Bool). drop (choose t P Q) ws) (stands_starts word p h)
        ∙ go (drop p ws) (f ∙ ap (λ (vs : List Word). rest_of (w vs)) (drop_next ws p)) g
      where
        go : (vs : List Word) → drop P ws ≡ rest_of (w (tail vs)) → drop Q ws ≡ rest_of (u vs)
            → drop (choose (starts (fixed_word word) vs) P Q) ws ≡ rest_of (next (fixed_word word) w u vs)
        go [] f g = g
        go (x ∷ vs) f g = turned (same x (fixed_word word))
          where
            turned : (t : Bool) → drop (choose t P Q) ws ≡ rest_of (turn t w u x vs)
            turned true = f
            turned false = g

  -- a thing, and then another
  module _ {A B : Type 0} (st : Step A) (k : A → Walk B) (p P : ℕ) where
    pub then_place : drop p ws ≡ rest_of st → (length codes ≤ p → length codes ≤ P)
        → ((x : A) → st ≡ found x (drop p ws) → drop P ws ≡ rest_of (k x (drop p ws))) → drop P ws ≡ rest_of (after st k)
    then_place = go st refl
      where
        go : (su : Step A) → st ≡ su → drop p ws ≡ rest_of su → (length codes ≤ p → length codes ≤ P)
            → ((x : A) → st ≡ found x (drop p ws) → drop P ws ≡ rest_of (k x (drop p ws))) → drop P ws ≡ rest_of (after su k)
        go (found x rest) is e l f = f x (is ∙ ap (found x) (sym e)) ∙ ap (λ (vs : List Word). rest_of (k x vs)) e
        go nothing is e l f = none_left P (l (left_none p e))

  pub word_place : (word p : ℕ) → word < other_code → drop (word_end codes word p) ws ≡ rest_of (the (fixed_word word) (drop p ws))
  unfolding word_end
  word_place word p h = next_place word p (p + 1) (length codes) (give tt) never h refl (none_left (length codes) (omega arith))

  -- a thing and a word behind it
  module _ {A B : Type 0} (st : Step A) (g : A → B) (word p : ℕ) (h : word < other_code) where
    pub closed_place : drop p ws ≡ rest_of st
        → drop (word_end codes word p) ws ≡ rest_of (after st (λ x vs. after (the (fixed_word word) vs) (λ _. give (g x))))
    closed_place e =
        then_place st (λ x vs. after (the (fixed_word word) vs) (λ _. give (g x))) p (word_end codes word p) e
        (λ l. (word_forward codes word h).ahead p (length codes) (omega arith) (omega arith))
        (λ x _. word_place word p h ∙ sym (rest_give (the (fixed_word word) (drop p ws)) (λ _. g x)))

  -- ---- the things of the grammar

  name_place : (p : ℕ) → drop (name_end codes p) ws ≡ rest_of (name (drop p ws))
  unfolding name_end name
  name_place p =
      ap (λ (c : ℕ). drop (choose (leb first_name c) (p + 1) (length codes)) ws) (code_first_lem names ws p) ∙ go (drop p ws) (drop_next ws p)
    where
      go : (vs : List Word) → drop (p + 1) ws ≡ tail vs
          → drop (choose (leb first_name (code_first names vs)) (p + 1) (length codes)) ws ≡ rest_of (name vs)
      go [] e = none_left (length codes) (omega arith)
      go (x ∷ vs) e = ap (λ (t : Bool). drop (choose t (p + 1) (length codes)) ws) (code_name names x) ∙ turned (is_name x)
        where
          turned : (t : Bool) → drop (choose t (p + 1) (length codes)) ws ≡ rest_of (named t x vs)
          turned true = e
          turned false = none_left (length codes) (omega arith)

  pub atom_place : (p : ℕ) → drop (atom_end codes p) ws ≡ rest_of (atom (drop p ws))
  unfolding atom_end atom
  atom_place p =
      next_place abd_code p _ _ _ _ (omega arith)
      (closed_place (name (drop (p + 1) ws)) (λ n. atom_of n true) close_code (name_end codes (p + 1)) (omega arith) (name_place (p + 1)))
      (name_place p ∙ sym (rest_give (name (drop p ws)) (λ n. atom_of n false)))

  literal_place : (p : ℕ) → drop (literal_end codes p) ws ≡ rest_of (literal (drop p ws))
  unfolding literal_end literal
  literal_place p =
      next_place naf_code p _ _ _ _ (omega arith)
      (closed_place (atom (drop (p + 1) ws)) (λ a. literal_of a false) close_code (atom_end codes (p + 1)) (omega arith) (atom_place (p + 1)))
      (atom_place p ∙ sym (rest_give (atom (drop p ws)) (λ a. literal_of a true)))

  module _ {A : Type 0} (separator : ℕ) (itemEnd : ℕ → ℕ) (item : Walk A) (h : separator < other_code) (F : Forward codes itemEnd)
      (item-place : (p : ℕ) → drop (itemEnd p) ws ≡ rest_of (item (drop p ws))) where
    separated_place : (n p : ℕ) → drop (separated_end codes separator itemEnd n p) ws ≡ rest_of (separated (fixed_word separator) item n (drop p ws))
    unfolding separated_end separated
    separated_place zero p = none_left (length codes) (omega arith)
    separated_place (suc n) p =
        then_place (item (drop p ws)) _ (itemEnd p) _ (item-place p) (last (itemEnd p))
        (λ x _.
        next_place separator (itemEnd p) _ _ _ _ h
        (separated_place n (itemEnd p + 1) ∙ sym (rest_give (separated (fixed_word separator) item n (drop (itemEnd p + 1) ws)) (λ xs. x ∷ xs))) refl)
      where
        last : (q : ℕ) → length codes ≤ q → length codes ≤ onward_end codes separator itemEnd n q
        last q l =
            of_choice (λ (z : ℕ). length codes ≤ z) (stands codes separator q) _ q
            (λ _. (separated_forward codes separator itemEnd F n).ahead (q + 1) (length codes) (omega arith) (omega arith)) (λ _. l)

  -- the reader's fuel
  abbrev fuel : ℕ
  fuel = length codes

  literals_place : (p : ℕ) → drop (literals_end codes p) ws ≡ rest_of (literals fuel (drop p ws))
  unfolding literals_end
  literals_place p = separated_place comma_code (literal_end codes) literal (omega arith) (literal_forward codes) literal_place fuel p

  pub side_place : (p : ℕ) → drop (side_end codes p) ws ≡ rest_of (side fuel (drop p ws))
  unfolding side_end
  side_place p = next_place true_code p _ _ (give []) (literals fuel) (omega arith) refl (literals_place p)

  conclusion_place : (p : ℕ) → drop (conclusion_end codes p) ws ≡ rest_of (ways fuel (drop p ws))
  unfolding conclusion_end ways_end
  conclusion_place p =
      next_place false_code p _ _ (give []) (separated semicolon (literals fuel) fuel) (omega arith) refl
      (separated_place semicolon_code (literals_end codes) (literals fuel) (omega arith) (literals_forward codes) literals_place fuel p)

  -- ---- a statement

  -- what a side goes on with as a constraint
  abbrev concluded : List Literal → Walk Statement
  concluded ls vs = after (ways fuel vs) (λ to us. after (the dot us) (λ _. give (constraint ls to)))

  abbrev behind_side : List Literal → Walk Statement
  behind_side ls = next arrow (concluded ls) (from_side fuel ls)

  concluded_place : (ls : List Literal) (p : ℕ) → drop (word_end codes dot_code (conclusion_end codes p)) ws ≡ rest_of (concluded ls (drop p ws))
  concluded_place ls p = closed_place (ways fuel (drop p ws)) (constraint ls) dot_code (conclusion_end codes p) (omega arith) (conclusion_place p)

  module _ (at : ℕ) where
    abbrev head : ℕ
    head = atom_end codes at

    -- the head of a clause is a side of one literal
    module _ (v : Word) (e : starts v (drop head ws) ≡ true) (n : same v comma ≡ false) where
      abbrev HeadRead : Type 0
      HeadRead = (a : Atom) × (side fuel (drop at ws) ≡ found (literal_of a true ∷ []) (v ∷ drop (head + 1) ws))

      head_read : HeadRead
      head_read = go (atom (drop at ws)) (atom_place at) (atom_ok (drop at ws))
        where
          is : drop head ws ≡ v ∷ drop (head + 1) ws
          is = starts_is v (drop head ws) e ∙ ap (λ (us : List Word). v ∷ us) (sym (drop_next ws head))

          some : 1 ≤ fuel
          some = omega (arith, codes_length, length-drop head ws, ap length is)

          go : (st : Step Atom) → drop head ws ≡ rest_of st → Ok (Front of_atom AtomFine (drop at ws)) st → HeadRead
          go st f none = clash e (ap (starts v) f)
          go st f (ok {x = a} {rest = rest} p) =
              let m : rest ≡ v ∷ drop (head + 1) ws = sym f ∙ is in (
                a,
                ap (side fuel) (p.0 ∙ ap (λ (us : List Word). of_atom a ++ us) m ∙ ap (λ (us : List Word). us ++ v ∷ drop (head + 1) ws) (sym (append-nil (of_atom a))))
                    ∙ side_reads fuel (literal_of a true ∷ []) (v ∷ drop (head + 1) ws) (every_more p.1 (every_none LiteralFine)) some n,
              )

    fact_place : starts dot (drop head ws) ≡ true → drop (head + 1) ws ≡ rest_of (statement fuel (drop at ws))
    unfolding statement next same from_side from_head
    fact_place e =
        let r : HeadRead dot e refl = head_read dot e refl in
        sym (ap (λ (st : Step (List Literal)). rest_of (after st behind_side)) r.1)

    rule_place : starts neck (drop head ws) ≡ true → drop (body_end codes (head + 1)) ws ≡ rest_of (statement fuel (drop at ws))
    unfolding statement next same from_side from_head body_end
    rule_place e =
        let r : HeadRead neck e refl = head_read neck e refl in
        closed_place (literals fuel (drop (head + 1) ws)) (clause r.0) dot_code (literals_end codes (head + 1)) (omega arith) (literals_place (head + 1))
        ∙ sym (ap (λ (st : Step (List Literal)). rest_of (after st behind_side)) r.1)

    -- behind anything else no clause goes on
    no_clause_lem : starts dot (drop head ws) ≡ false → starts neck (drop head ws) ≡ false
        → (ls : List Literal) (rest : List Word) → side fuel (drop at ws) ≡ found ls rest → rest_of (from_side fuel ls rest) ≡ []
    unfolding from_side from_head
    no_clause_lem d n [] rest e = refl
    no_clause_lem d n (l ∷ m ∷ ls) rest e = refl
    no_clause_lem d n (l ∷ []) rest e = go l.sign l.atom (front (side fuel (drop at ws)) (side_ok fuel (drop at ws)) e)
      where
        front : (st : Step (List Literal)) → Ok (Front of_side LiteralsFine (drop at ws)) st → st ≡ found (l ∷ []) rest
            → Front of_side LiteralsFine (drop at ws) (l ∷ []) rest
        front st none e = absurd (subst is_found (sym e) tt)
        front st (ok {x = ks} {rest = us} p) e =
            let same-side : ks ≡ l ∷ [] = cc in
            let same_rest : us ≡ rest = cc in
            subst (λ (z : List Literal). Front of_side LiteralsFine (drop at ws) z rest) same-side
            (subst (Front of_side LiteralsFine (drop at ws) ks) same_rest p)

        go : (t : Bool) (a : Atom) → Front of_side LiteralsFine (drop at ws) (literal_of a t ∷ []) rest → rest_of (from_head fuel t a rest) ≡ []
        go false a p = refl
        go true a p =
            let begun : drop at ws ≡ of_atom a ++ rest = p.0 ∙ ap (λ (us : List Word). us ++ rest) (append-nil (of_atom a)) in
            let is : drop head ws ≡ rest = atom_place at ∙ ap rest_of (ap atom begun ∙ atom_reads a rest (p.1 (literal_of a true) here)) in
            ap rest_of
            (next_other dot _ _ rest (ap (starts dot) (sym is) ∙ d)
            ∙ ap (λ (st : Step Unit). after st (λ _ us. after (literals fuel us) (λ body vs. after (the dot vs) (λ _. give (clause a body)))))
            (next_other neck (give tt) never rest (ap (starts neck) (sym is) ∙ n)))

    constraint_place_lem : starts dot (drop head ws) ≡ false → starts neck (drop head ws) ≡ false
        → drop (constraint_end codes at) ws ≡ rest_of (statement fuel (drop at ws))
    unfolding statement constraint_end
    constraint_place_lem d n =
        then_place (side fuel (drop at ws)) behind_side p (rest (word_end codes arrow_code p)) (side_place at)
        (λ l. onward (word_end codes arrow_code p) ((word_forward codes arrow_code (omega arith)).ahead p (length codes) (omega arith) (omega arith)))
        (λ ls e.
        then_place (the arrow (drop p ws)) (λ _. concluded ls) (word_end codes arrow_code p) (rest (word_end codes arrow_code p)) (word_place arrow_code p (omega arith))
        (onward (word_end codes arrow_code p)) (λ _ _. concluded_place ls (word_end codes arrow_code p))
        ∙ sym (rest_next arrow (concluded ls) (from_side fuel ls) (drop p ws) (no_clause_lem d n ls (drop p ws) e)))
      where
        p : ℕ
        p = side_end codes at

        rest : ℕ → ℕ
        rest q = word_end codes dot_code (conclusion_end codes q)

        onward : (q : ℕ) → length codes ≤ q → length codes ≤ rest q
        onward q l =
            (then_forward codes (conclusion_end codes) (word_end codes dot_code) (conclusion_forward codes) (word_forward codes dot_code (omega arith))
            ).ahead q (length codes) (omega arith) (omega arith)

    pub statement_place : drop (statement_end codes at) ws ≡ rest_of (statement fuel (drop at ws))
    unfolding statement_end
    statement_place =
        of_choice Here (stands codes dot_code head) _ _ (λ e. fact_place (sym (stands_starts dot_code head (omega arith)) ∙ e))
        (λ d.
        of_choice Here (stands codes neck_code head) _ _ (λ e. rule_place (sym (stands_starts neck_code head (omega arith)) ∙ e))
        (λ n. constraint_place_lem (sym (stands_starts dot_code head (omega arith)) ∙ d) (sym (stands_starts neck_code head (omega arith)) ∙ n)))
      where
        Here : ℕ → Type 0
        Here q = drop q ws ≡ rest_of (statement fuel (drop at ws))
