-- The mentions of a document, read off its words: each name, marked where the word before it is `abd(`. What the code scans.
-- Assumes nothing.
use Rattle.std.specs.Prelude.{ℕ, ◌≡◌, refl, Bool, true, false, List, [], ◌∷◌, ◌++◌}
use Rattle.std.proofs.Common.{sym, ap, ◌∙◌, append_assoc, append-nil}
use Rattle.base.specs.paper.Lists.{Every, flat, put}
use Rattle.base.specs.Lists.{every_first, every_rest}
use Rattle.spelling.specs.paper.Words.{Word, same, small, in_name, abd, close, comma, semicolon, dot, neck, arrow, query, is_name}
use Rattle.spelling.specs.Cut.{words}
use Rattle.spelling.specs.paper.Document.{Atom, Literal, Statement, clause, constraint, Document, of_atom, of_literal, of_literals, of_side, of_ways, of_statement, AtomFine, LiteralsFine, WayFine, StatementFine}
use Rattle.spelling.specs.Reader.{atom_of, literal_of, reads, parse}
use Rattle.spelling.proofs.Sound.{LiteralFine, parse_sound}
use Rattle.spelling.specs.WordLaws.{name_other}
use Rattle.spelling.specs.paper.Said.{atoms_in, mentions_in, mentions}

unfoldable pub scan : Bool → List Word → List Atom
scan marked [] = []
scan marked (w ∷ ws) = put (is_name w) (atom_of w marked) (scan (same w abd) ws)

scan_name : (t : Bool) (n : Word) (ws : List Word) → is_name n ≡ true → scan t (n ∷ ws) ≡ atom_of n t ∷ scan false ws
unfolding scan is_name same small in_name
scan_name t n ws h =
    ap (λ (q : Bool). put q (atom_of n t) (scan (same n abd) ws)) h ∙ ap (λ (q : Bool). atom_of n t ∷ scan q ws) (name_other n abd h refl)

scan_atom : (a : Atom) (ws : List Word) → AtomFine a → scan false (of_atom a ++ ws) ≡ a ∷ scan false ws
unfolding scan is_name same small in_name
scan_atom a ws h = go a.marked
  where
    go : (t : Bool) → scan false (of_atom (atom_of a.name t) ++ ws) ≡ atom_of a.name t ∷ scan false ws
    go true = scan_name true a.name (close ∷ ws) h
    go false = scan_name false a.name ws h

scan_literal : (l : Literal) (ws : List Word) → LiteralFine l → scan false (of_literal l ++ ws) ≡ l.atom ∷ scan false ws
unfolding scan is_name same small in_name
scan_literal l ws h = go l.sign
  where
    go : (t : Bool) → scan false (of_literal (literal_of l.atom t) ++ ws) ≡ l.atom ∷ scan false ws
    go true = scan_atom l.atom ws h
    go false = ap (scan false) (append_assoc (of_atom l.atom) (close ∷ []) ws) ∙ scan_atom l.atom (close ∷ ws) h

scan_others : (ls : List Literal) (ws : List Word) → LiteralsFine ls → scan false (flat (λ (k : Literal). comma ∷ of_literal k) ls ++ ws) ≡ atoms_in ls ++ scan false ws
unfolding scan is_name same small in_name
scan_others [] ws h = refl
scan_others (l ∷ ls) ws h =
    let rest : List Word = flat (λ (k : Literal). comma ∷ of_literal k) ls in
    ap (scan false) (append_assoc (of_literal l) rest ws)
    ∙ scan_literal l (rest ++ ws) (every_first h)
    ∙ ap (λ (z : List Atom). l.atom ∷ z) (scan_others ls ws (every_rest h))

scan_literals : (ls : List Literal) (ws : List Word) → LiteralsFine ls → scan false (of_literals ls ++ ws) ≡ atoms_in ls ++ scan false ws
scan_literals [] ws h = refl
scan_literals (l ∷ ls) ws h =
    let rest : List Word = flat (λ (k : Literal). comma ∷ of_literal k) ls in
    ap (scan false) (append_assoc (of_literal l) rest ws)
    ∙ scan_literal l (rest ++ ws) (every_first h)
    ∙ ap (λ (z : List Atom). l.atom ∷ z) (scan_others ls ws (every_rest h))

scan_side : (ls : List Literal) (ws : List Word) → LiteralsFine ls → scan false (of_side ls ++ ws) ≡ atoms_in ls ++ scan false ws
unfolding scan is_name same small in_name
scan_side [] ws h = refl
scan_side (l ∷ ls) ws h = scan_literals (l ∷ ls) ws h

scan_more : (to : List (List Literal)) (ws : List Word) → Every WayFine to
    → scan false (flat (λ (k : List Literal). semicolon ∷ of_literals k) to ++ ws) ≡ flat atoms_in to ++ scan false ws
unfolding scan is_name same small in_name
scan_more [] ws h = refl
scan_more (ls ∷ to) ws h =
    let rest : List Word = flat (λ (k : List Literal). semicolon ∷ of_literals k) to in
    ap (scan false) (append_assoc (of_literals ls) rest ws)
    ∙ scan_literals ls (rest ++ ws) (every_first h).1
    ∙ ap (λ (z : List Atom). atoms_in ls ++ z) (scan_more to ws (every_rest h))
    ∙ sym (append_assoc (atoms_in ls) (flat atoms_in to) (scan false ws))

scan_ways : (to : List (List Literal)) (ws : List Word) → Every WayFine to → scan false (of_ways to ++ ws) ≡ flat atoms_in to ++ scan false ws
unfolding scan is_name same small in_name
scan_ways [] ws h = refl
scan_ways (ls ∷ to) ws h =
    let rest : List Word = flat (λ (k : List Literal). semicolon ∷ of_literals k) to in
    ap (scan false) (append_assoc (of_literals ls) rest ws)
    ∙ scan_literals ls (rest ++ ws) (every_first h).1
    ∙ ap (λ (z : List Atom). atoms_in ls ++ z) (scan_more to ws (every_rest h))
    ∙ sym (append_assoc (atoms_in ls) (flat atoms_in to) (scan false ws))

scan_statement : (s : Statement) (ws : List Word) → StatementFine s → scan false (of_statement s ++ ws) ≡ mentions_in s ++ scan false ws
unfolding scan is_name same small in_name
scan_statement (clause a []) ws h = ap (scan false) (append_assoc (of_atom a) (dot ∷ []) ws) ∙ scan_atom a (dot ∷ ws) h.0
scan_statement (clause a (l ∷ ls)) ws h =
    let body : List Word = of_literals (l ∷ ls) in
    ap (scan false) (append_assoc (of_atom a) (neck ∷ (body ++ dot ∷ [])) ws)
    ∙ scan_atom a (neck ∷ ((body ++ dot ∷ []) ++ ws)) h.0
    ∙ ap (λ (z : List Word). a ∷ scan false z) (append_assoc body (dot ∷ []) ws)
    ∙ ap (λ (z : List Atom). a ∷ z) (scan_literals (l ∷ ls) (dot ∷ ws) h.1)
scan_statement (constraint c to) ws h =
    ap (scan false) (append_assoc (of_side c) (arrow ∷ (of_ways to ++ dot ∷ [])) ws)
    ∙ scan_side c (arrow ∷ ((of_ways to ++ dot ∷ []) ++ ws)) h.0
    ∙ ap (λ (z : List Word). atoms_in c ++ scan false z) (append_assoc (of_ways to) (dot ∷ []) ws)
    ∙ ap (λ (z : List Atom). atoms_in c ++ z) (scan_ways to (dot ∷ ws) h.1)
    ∙ sym (append_assoc (atoms_in c) (flat atoms_in to) (scan false ws))

scan_statements : (ss : List Statement) (ws : List Word) → Every StatementFine ss → scan false (flat of_statement ss ++ ws) ≡ flat mentions_in ss ++ scan false ws
scan_statements [] ws h = refl
scan_statements (s ∷ ss) ws h =
    ap (scan false) (append_assoc (of_statement s) (flat of_statement ss) ws)
    ∙ scan_statement s (flat of_statement ss ++ ws) (every_first h)
    ∙ ap (λ (z : List Atom). mentions_in s ++ z) (scan_statements ss ws (every_rest h))
    ∙ sym (append_assoc (mentions_in s) (flat mentions_in ss) (scan false ws))

-- a text that is read mentions exactly what a scan of its words finds
pub scan_words : (t : List ℕ) (d : Document) → parse t ≡ reads d → scan false (words t) ≡ mentions d
unfolding parse scan is_name same small in_name
scan_words t d e =
    let s = parse_sound (words t) d e in
    ap (scan false) s.0
    ∙ scan_statements d.statements (query ∷ (of_side d.goal ++ dot ∷ [])) s.1.0
    ∙ ap (λ (z : List Atom). flat mentions_in d.statements ++ z) (scan_side d.goal (dot ∷ []) s.1.1 ∙ append-nil (atoms_in d.goal))
