-- The words of a document are apart: no two of its words run together.
-- Assumes nothing.
use Rattle.std.specs.Prelude.{ℕ, ◌≡◌, refl, Bool, true, false, ◌&&◌, ◌||◌, not, List, [], ◌∷◌, ◌++◌, length, eqb, leb}
use Rattle.std.proofs.Common.{sym, ap, ◌∙◌, subst, append_assoc, eqb-true}
use Rattle.base.specs.Bools.{choose_false, clash, both_left, both_right}
use Rattle.base.specs.paper.Lists.{Every, flat, all, any, ◌∈◌}
use Rattle.base.specs.Lists.{every_none, every_more, every_first, every_rest, any_some, here, there}
use Rattle.spelling.specs.paper.Words.{Word, blanks, blank, small, in_name, same, abd, naf, close, comma, semicolon, dot, neck, arrow, query, true_word, false_word, bare_abd, bare_naf, is_name}
use Rattle.spelling.specs.Cut.{Cut, cutting, span, begins, sign, bracket, opened, cut_at, cut}
use Rattle.spelling.specs.paper.Document.{Atom, Literal, Statement, clause, constraint, Document, of_atom, of_literal, joined, of_literals, of_side, of_ways, of_statement, of_document, AtomFine, LiteralsFine, NonEmpty, WayFine, StatementFine, Fine}
use Rattle.spelling.specs.Reader.{atom_of, literal_of}
use Rattle.spelling.proofs.Sound.{LiteralFine}
use Rattle.spelling.specs.WordLaws.{name_other}
use Rattle.spelling.specs.paper.Spelt.{Blank, Spaced}
use Rattle.spelling.specs.Cutting.{stops, span_over, solid, Apart}

-- ---- a document's words are

blank_byte : (P : ℕ → Type 0) → Every P blanks → (b : ℕ) → blank b ≡ true → P b
unfolding blank
blank_byte P ps b e = let s = any_some (eqb b) blanks e in subst P (sym (eqb-true b s.0 s.2)) (ps s.0 s.1)

blank_stops : (b : ℕ) → blank b ≡ true → in_name b ≡ false
unfolding in_name small
blank_stops b e = blank_byte (λ c. in_name c ≡ false) (every_more refl (every_more refl (every_more refl (every_more refl (every_none (λ c. in_name c ≡ false)))))) b e

small_solid : (b : ℕ) → small b ≡ true → not (blank b) ≡ true
unfolding small
small_solid b h = go (blank b) refl
  where
    go : (t : Bool) → blank b ≡ t → not t ≡ true
    go true e = clash h (blank_byte (λ c. small c ≡ false) (every_more refl (every_more refl (every_more refl (every_more refl (every_none (λ c. small c ≡ false)))))) b e)
    go false e = refl

-- a word that begins with no letter, digit or underscore
abbrev pub sign_first : List Word → Type 0
sign_first [] = Unit {0}
sign_first ([] ∷ ws) = ⊥
sign_first ((b ∷ w) ∷ ws) = in_name b ≡ false

spaced_stops : (rest : List ℕ) (ws : List Word) → sign_first ws → Spaced rest ws → stops in_name rest
spaced_stops [] ws f s = tt
spaced_stops (b ∷ t) [] f s = blank_stops b (both_left (blank b) (all blank t) s)
spaced_stops (b ∷ t) ([] ∷ ws) f s = absurd f
spaced_stops (b ∷ t) ((c ∷ w) ∷ ws) f s = go s.0 s.2 s.3
  where
    go : (gap : List ℕ) → Blank gap → b ∷ t ≡ gap ++ c ∷ (w ++ s.1) → in_name b ≡ false
    go [] h e = let i : b ≡ c = cc in subst (λ (z : ℕ). in_name z ≡ false) (sym i) f
    go (d ∷ gap) h e = let i : b ≡ d = cc in subst (λ (z : ℕ). in_name z ≡ false) (sym i) (blank_stops d (both_left (blank d) (all blank gap) h))

-- a run of letters, digits and underscores before a sign
abbrev Run : Word → Type 0
Run w = NonEmpty w × (all in_name w ≡ true) × (solid w ≡ true) × (same w bare_abd ≡ false) × (same w bare_naf ≡ false)

run_cut : (w rest : List ℕ) → Run w → stops in_name rest → cut (w ++ rest) ≡ cutting w rest
unfolding cut_at opened
run_cut [] rest r h = absurd r.0
run_cut (b ∷ w) rest r h =
    ap (λ (c : Cut). cut_at c.front c.rest) (span_over in_name (b ∷ w) rest r.1 h)
    ∙ choose_false _ _ (none (begins bracket rest) (same (b ∷ w) bare_abd) (same (b ∷ w) bare_naf) r.3 r.4)
  where
    none : (x y z : Bool) → y ≡ false → z ≡ false → (x && (y || z)) ≡ false
    none true true z p q = clash refl p
    none true false z p q = q
    none false y z p q = refl

name_run : (n : Word) → is_name n ≡ true → Run n
unfolding is_name same small in_name
name_run [] h = clash refl (sym h)
name_run (b ∷ w) h = (tt, letters, small_solid b first, name_other (b ∷ w) bare_abd h refl, name_other (b ∷ w) bare_naf h refl)
  where
    long : Bool
    long = leb (length (b ∷ w)) 31

    fixed : Bool
    fixed = not (any (same (b ∷ w)) (bare_abd ∷ bare_naf ∷ true_word ∷ false_word ∷ []))

    both : (small b && all in_name (b ∷ w)) ≡ true
    both = both_left (small b && all in_name (b ∷ w)) long (both_left (small b && all in_name (b ∷ w) && long) fixed h)

    first : small b ≡ true
    first = both_left (small b) (all in_name (b ∷ w)) both

    letters : all in_name (b ∷ w) ≡ true
    letters = both_right (small b) (all in_name (b ∷ w)) both

-- the words behind: they are apart, and the first is a sign
abbrev Tail : List Word → Type 0
Tail ws = Apart ws × sign_first ws

run_apart : (w : Word) (ws : List Word) → Run w → Tail ws → Apart (w ∷ ws)
run_apart w ws r t = (r.2, λ rest s. run_cut w rest r (spaced_stops rest ws t.1 s), t.0)

abbrev Signs : Word → Type 0
Signs v = (solid v ≡ true) × ((rest : List ℕ) → cut (v ++ rest) ≡ cutting v rest)

signs_apart : (v : Word) (ws : List Word) → Signs v → Apart ws → Apart (v ∷ ws)
signs_apart v ws h a = (h.0, λ rest _. h.1 rest, a)

-- each of the fixed words but true and false is cut off whatever follows
fixed_signs : Every Signs (abd ∷ naf ∷ close ∷ comma ∷ semicolon ∷ dot ∷ neck ∷ arrow ∷ query ∷ [])
unfolding cut_at opened sign begins span in_name small same blank
fixed_signs =
    every_more (refl, λ _. refl) (every_more (refl, λ _. refl) (every_more (refl, λ _. refl) (every_more (refl, λ _. refl)
    (every_more (refl, λ _. refl) (every_more (refl, λ _. refl) (every_more (refl, λ _. refl) (every_more (refl, λ _. refl)
    (every_more (refl, λ _. refl) (every_none Signs)))))))))

-- a fixed sign before words that are apart
signed : (v : Word) (ws : List Word) → v ∈ (close ∷ comma ∷ semicolon ∷ dot ∷ neck ∷ arrow ∷ query ∷ []) → Apart ws → Tail (v ∷ ws)
unfolding in_name small
signed v ws i a = (
  signs_apart v ws (every_rest (every_rest fixed_signs) v i) a,
  every_more {P = λ (w : Word). sign_first (w ∷ ws)} refl (every_more refl (every_more refl (every_more refl (every_more refl (every_more refl (every_more refl (every_none (λ (w : Word). sign_first (w ∷ ws))))))))) v i,
)

true_run : Run true_word
unfolding in_name small same blank
true_run = (tt, refl, refl, refl, refl)

false_run : Run false_word
unfolding in_name small same blank
false_run = (tt, refl, refl, refl, refl)

atom_apart : (a : Atom) (ws : List Word) → AtomFine a → Tail ws → Apart (of_atom a ++ ws)
atom_apart a ws h t = go a.marked
  where
    go : (m : Bool) → Apart (of_atom (atom_of a.name m) ++ ws)
    go true =
        signs_apart abd (a.name ∷ close ∷ ws) (every_first fixed_signs)
        (run_apart a.name (close ∷ ws) (name_run a.name h) (signed close ws here t.0))
    go false = run_apart a.name ws (name_run a.name h) t

literal_apart : (l : Literal) (ws : List Word) → LiteralFine l → Tail ws → Apart (of_literal l ++ ws)
literal_apart l ws h t = go l.sign
  where
    go : (m : Bool) → Apart (of_literal (literal_of l.atom m) ++ ws)
    go true = atom_apart l.atom ws h t
    go false =
        signs_apart naf ((of_atom l.atom ++ close ∷ []) ++ ws) (every_first (every_rest fixed_signs))
        (subst Apart (sym (append_assoc (of_atom l.atom) (close ∷ []) ws)) (atom_apart l.atom (close ∷ ws) h (signed close ws here t.0)))

module _ {A : Type 0} (s : Word) (f : A → List Word) (F : A → Type 0)
    (i : s ∈ (close ∷ comma ∷ semicolon ∷ dot ∷ neck ∷ arrow ∷ query ∷ []))
    (item-apart : (x : A) (ws : List Word) → F x → Tail ws → Apart (f x ++ ws)) where
  flat_apart : (xs : List A) (ws : List Word) → Every F xs → Tail ws → Tail (flat (λ y. s ∷ f y) xs ++ ws)
  flat_apart [] ws h t = t
  flat_apart (x ∷ xs) ws h t =
      subst Tail (sym (append_assoc (s ∷ f x) (flat (λ y. s ∷ f y) xs) ws))
      (signed s (f x ++ (flat (λ y. s ∷ f y) xs ++ ws)) i (item-apart x (flat (λ y. s ∷ f y) xs ++ ws) (every_first h) (flat_apart xs ws (every_rest h) t)))

  joined_apart : (xs : List A) (ws : List Word) → NonEmpty xs → Every F xs → Tail ws → Apart (joined s f xs ++ ws)
  joined_apart [] ws some h t = absurd some
  joined_apart (x ∷ xs) ws some h t =
      subst Apart (sym (append_assoc (f x) (flat (λ y. s ∷ f y) xs) ws))
      (item-apart x (flat (λ y. s ∷ f y) xs ++ ws) (every_first h) (flat_apart xs ws (every_rest h) t))

literals_apart : (ls : List Literal) (ws : List Word) → WayFine ls → Tail ws → Apart (of_literals ls ++ ws)
literals_apart ls ws h t = joined_apart comma of_literal LiteralFine (there here) literal_apart ls ws h.0 h.1 t

side_apart : (ls : List Literal) (ws : List Word) → LiteralsFine ls → Tail ws → Apart (of_side ls ++ ws)
side_apart [] ws h t = run_apart true_word ws true_run t
side_apart (l ∷ ls) ws h t = literals_apart (l ∷ ls) ws (tt, h) t

ways_apart : (to : List (List Literal)) (ws : List Word) → Every WayFine to → Tail ws → Apart (of_ways to ++ ws)
ways_apart [] ws h t = run_apart false_word ws false_run t
ways_apart (ls ∷ to) ws h t = joined_apart semicolon of_literals WayFine (there (there here)) literals_apart (ls ∷ to) ws tt h t

is_dot : dot ∈ (close ∷ comma ∷ semicolon ∷ dot ∷ neck ∷ arrow ∷ query ∷ [])
is_dot = there (there (there here))

statement_apart : (s : Statement) (ws : List Word) → StatementFine s → Apart ws → Apart (of_statement s ++ ws)
statement_apart (clause a []) ws h t =
    subst Apart (sym (append_assoc (of_atom a) (dot ∷ []) ws)) (atom_apart a (dot ∷ ws) h.0 (signed dot ws is_dot t))
statement_apart (clause a (l ∷ ls)) ws h t =
    let body : List Word = of_literals (l ∷ ls) in
    subst Apart (sym (append_assoc (of_atom a) (neck ∷ (body ++ dot ∷ [])) ws ∙ ap (λ (z : List Word). of_atom a ++ (neck ∷ z)) (append_assoc body (dot ∷ []) ws)))
    (atom_apart a (neck ∷ (body ++ dot ∷ ws)) h.0
    (signed neck (body ++ dot ∷ ws) (there (there (there (there here)))) (literals_apart (l ∷ ls) (dot ∷ ws) (tt, h.1) (signed dot ws is_dot t))))
statement_apart (constraint c to) ws h t =
    subst Apart
    (sym (append_assoc (of_side c) (arrow ∷ (of_ways to ++ dot ∷ [])) ws ∙ ap (λ (z : List Word). of_side c ++ (arrow ∷ z)) (append_assoc (of_ways to) (dot ∷ []) ws)))
    (side_apart c (arrow ∷ (of_ways to ++ dot ∷ ws)) h.0
    (signed arrow (of_ways to ++ dot ∷ ws) (there (there (there (there (there here))))) (ways_apart to (dot ∷ ws) h.1 (signed dot ws is_dot t))))

statements_apart : (ss : List Statement) (ws : List Word) → Every StatementFine ss → Apart ws → Apart (flat of_statement ss ++ ws)
statements_apart [] ws h t = t
statements_apart (s ∷ ss) ws h t =
    subst Apart (sym (append_assoc (of_statement s) (flat of_statement ss) ws))
    (statement_apart s (flat of_statement ss ++ ws) (every_first h) (statements_apart ss ws (every_rest h) t))

pub document_apart : (d : Document) → Fine d → Apart (of_document d)
document_apart d h =
    statements_apart d.statements (query ∷ (of_side d.goal ++ dot ∷ [])) h.0
    (signed query (of_side d.goal ++ dot ∷ []) (there (there (there (there (there (there here)))))) (side_apart d.goal (dot ∷ []) h.1 (signed dot [] is_dot tt))).0
