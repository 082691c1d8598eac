-- What is spelt in front of it the reader finds.
-- Assumes nothing.
use Prim.Native.Nat.{ℕ, zero, suc, ◌+◌, ◌≤◌}
use Rattle.std.proofs.Common.{arith, sym, ◌∙◌, length-append}
use Rattle.std.specs.Prelude.{◌≡◌, refl, Bool, true, false, length}
use Rattle.std.proofs.Math.Path.{ap}
use mathlib.Core.List.{List, [], ◌∷◌, ◌++◌, append_assoc, append-nil}
use Rattle.base.specs.paper.Lists.{Every, flat}
use Rattle.base.specs.Lists.{every_none, every_more, every_first, every_rest}
use Rattle.spelling.specs.paper.Words.{Word, same, abd, naf, close, comma, semicolon, dot, neck, arrow, query, true_word, false_word, small, in_name, is_name}
use Rattle.spelling.specs.paper.Document.{Atom, Literal, Statement, clause, constraint, Document, of_atom, of_literal, joined, of_literals, of_side, of_ways, of_body, of_statement, of_document, AtomFine, LiteralsFine, NonEmpty, WayFine, StatementFine, Fine}
use Rattle.spelling.specs.WordLaws.{name_other}
use Rattle.spelling.specs.Reader.{Step, found, Walk, after, give, turn, next, the, named, name, atom_of, literal_of, atom, literal, separated, literals, side, ways, from_head, from_side, statement, goal_line, document, reads, over, parse_words}
use Rattle.spelling.proofs.Sound.{LiteralFine}

-- do the words begin with v?
abbrev pub starts : Word → List Word → Bool
starts v [] = false
starts v (x ∷ ws) = same x v

pub next_other : {A : Type 0} (v : Word) (w u : Walk A) (ws : List Word) → starts v ws ≡ false → next v w u ws ≡ u ws
unfolding next
next_other v w u [] e = refl
next_other v w u (x ∷ ws) e = ap (λ (t : Bool). turn t w u x ws) e

pub name_reads : (n : Word) (rest : List Word) → is_name n ≡ true → name (n ∷ rest) ≡ found n rest
unfolding name
name_reads n rest h = ap (λ (t : Bool). named t n rest) h

abbrev closed : Word → Walk Atom
closed n ws = after (the close ws) (λ _. give (atom_of n true))

pub atom_reads : (a : Atom) (rest : List Word) → AtomFine a → atom (of_atom a ++ rest) ≡ found a rest
unfolding atom next same is_name small in_name
atom_reads a rest h = go a.marked
  where
    n : Word
    n = a.name

    go : (t : Bool) → atom (of_atom (atom_of a.name t) ++ rest) ≡ found (atom_of a.name t) rest
    go true = ap (λ (st : Step Word). after st closed) (name_reads a.name (close ∷ rest) h)
    go false =
        next_other abd _ _ (a.name ∷ rest) (name_other a.name abd h refl)
        ∙ ap (λ (st : Step Word). after st (λ n. give (atom_of n false))) (name_reads a.name rest h)

-- an atom begins with a name or with abd(
pub atom_starts : (v : Word) (a : Atom) (rest : List Word) → AtomFine a → is_name v ≡ false → same abd v ≡ false
    → starts v (of_atom a ++ rest) ≡ false
atom_starts v a rest h p q = go a.marked
  where
    go : (t : Bool) → starts v (of_atom (atom_of a.name t) ++ rest) ≡ false
    go true = q
    go false = name_other a.name v h p

abbrev negated : Atom → Walk Literal
negated a ws = after (the close ws) (λ _. give (literal_of a false))

pub literal_reads : (l : Literal) (rest : List Word) → LiteralFine l → literal (of_literal l ++ rest) ≡ found l rest
unfolding literal next same is_name small in_name
literal_reads l rest h = go l.sign
  where
    go : (t : Bool) → literal (of_literal (literal_of l.atom t) ++ rest) ≡ found (literal_of l.atom t) rest
    go true =
        next_other naf (λ ws. after (atom ws) negated) (λ ws. after (atom ws) (λ a. give (literal_of a true))) (of_atom l.atom ++ rest) (atom_starts naf l.atom rest h refl refl)
        ∙ ap (λ (st : Step Atom). after st (λ a. give (literal_of a true))) (atom_reads l.atom rest h)
    go false =
        ap (λ (z : List Word). after (atom z) negated) (append_assoc (of_atom l.atom) (close ∷ []) rest)
        ∙ ap (λ (st : Step Atom). after st negated) (atom_reads l.atom (close ∷ rest) h)

-- and a literal with one of these or with naf(
pub literal_starts : (v : Word) (l : Literal) (rest : List Word) → LiteralFine l → is_name v ≡ false → same abd v ≡ false → same naf v ≡ false
    → starts v (of_literal l ++ rest) ≡ false
literal_starts v l rest h p q r = go l.sign
  where
    go : (t : Bool) → starts v (of_literal (literal_of l.atom t) ++ rest) ≡ false
    go true = atom_starts v l.atom rest h p q
    go false = r

module _ {A : Type 0} (s : Word) (item : Walk A) (f : A → List Word) (F : A → Type 0) (Stop : List Word → Type 0)
    (itself : same s s ≡ true)
    (item-reads : (x : A) (rest : List Word) → F x → Stop rest → item (f x ++ rest) ≡ found x rest)
    (stops : (us : List Word) → Stop (s ∷ us)) where
  pub separated_reads : (n : ℕ) (xs : List A) (rest : List Word) → NonEmpty xs → Every F xs → length xs ≤ n → Stop rest → starts s rest ≡ false
      → separated s item n (joined s f xs ++ rest) ≡ found xs rest
  unfolding separated next
  separated_reads n [] rest some h long stop e = absurd some
  separated_reads zero (x ∷ xs) rest some h long stop e = absurd (omega arith)
  separated_reads (suc n) (x ∷ []) rest some h long stop e =
      ap (λ (z : List Word). after (item (z ++ rest)) behind) (append-nil (f x))
      ∙ ap (λ (st : Step A). after st behind) (item-reads x rest (every_first h) stop)
      ∙ next_other s (λ ws. after (separated s item n ws) (λ xs. give (x ∷ xs))) (give (x ∷ [])) rest e
    where
      behind : A → Walk (List A)
      behind x = next s (λ ws. after (separated s item n ws) (λ xs. give (x ∷ xs))) (give (x ∷ []))
  separated_reads (suc n) (x ∷ y ∷ ys) rest some h long stop e =
      ap (λ (z : List Word). after (item z) behind) (append_assoc (f x) (s ∷ joined s f (y ∷ ys)) rest)
      ∙ ap (λ (st : Step A). after st behind) (item-reads x (s ∷ (joined s f (y ∷ ys) ++ rest)) (every_first h) (stops _))
      ∙ ap (λ (t : Bool). turn t (more x) (give (x ∷ [])) s (joined s f (y ∷ ys) ++ rest)) itself
      ∙ ap (λ (st : Step (List A)). after st (λ xs. give (x ∷ xs)))
      (separated_reads n (y ∷ ys) rest tt (every_rest h) (omega arith) stop e)
    where
      more : A → Walk (List A)
      more x ws = after (separated s item n ws) (λ xs. give (x ∷ xs))

      behind : A → Walk (List A)
      behind x = next s (more x) (give (x ∷ []))

abbrev NotComma : List Word → Type 0
NotComma ws = starts comma ws ≡ false

pub literals_reads : (n : ℕ) (ls : List Literal) (rest : List Word) → NonEmpty ls → LiteralsFine ls → length ls ≤ n → NotComma rest
    → literals n (of_literals ls ++ rest) ≡ found ls rest
unfolding same
literals_reads n ls rest some h long e =
    separated_reads comma literal of_literal LiteralFine (λ _. Unit {0}) refl (λ l r p _. literal_reads l r p) (λ _. tt) n ls rest some h long tt e

pub side_reads : (n : ℕ) (ls : List Literal) (rest : List Word) → LiteralsFine ls → length ls ≤ n → NotComma rest
    → side n (of_side ls ++ rest) ≡ found ls rest
unfolding same next is_name small in_name
side_reads n [] rest h long e = refl
side_reads n (l ∷ ls) rest h long e =
    next_other true_word (give []) (literals n) (of_literals (l ∷ ls) ++ rest) (front true_word refl refl refl)
    ∙ literals_reads n (l ∷ ls) rest tt h long e
  where
    front : (v : Word) → is_name v ≡ false → same abd v ≡ false → same naf v ≡ false → starts v (of_literals (l ∷ ls) ++ rest) ≡ false
    front v p q r =
        ap (starts v) (append_assoc (of_literal l) (flat (λ (k : Literal). comma ∷ of_literal k) ls) rest)
        ∙ literal_starts v l _ (every_first h) p q r

abbrev pub WayFits : ℕ → List Literal → Type 0
WayFits n ls = WayFine ls × (length ls ≤ n)

pub ways_reads : (n : ℕ) (to : List (List Literal)) (rest : List Word) → Every (WayFits n) to → length to ≤ n
    → NotComma rest → starts semicolon rest ≡ false → ways n (of_ways to ++ rest) ≡ found to rest
unfolding same next is_name small in_name
ways_reads n [] rest h long e d = refl
ways_reads n ([] ∷ to) rest h long e d = absurd (every_first h).0.0
ways_reads n ((l ∷ ls) ∷ to) rest h long e d =
    next_other false_word (give []) (separated semicolon (literals n) n) (of_ways ((l ∷ ls) ∷ to) ++ rest)
    (ap (starts false_word)
    (append_assoc (of_literals (l ∷ ls)) (flat (λ (k : List Literal). semicolon ∷ of_literals k) to) rest
    ∙ append_assoc (of_literal l) (flat (λ (k : Literal). comma ∷ of_literal k) ls) _)
    ∙ literal_starts false_word l _ (every_first (every_first h).0.1) refl refl refl)
    ∙ separated_reads semicolon (literals n) of_literals (WayFits n) NotComma refl
    (λ ls r p q. literals_reads n ls r p.0.0 p.0.1 p.1 q) (λ _. refl) n ((l ∷ ls) ∷ to) rest tt h long e d

-- ---- a statement that is short enough for the fuel

abbrev pub StatementFits : ℕ → Statement → Type 0
StatementFits n (clause a body) = AtomFine a × LiteralsFine body × (length body ≤ n) × (1 ≤ n)
StatementFits n (constraint c to) = LiteralsFine c × (length c ≤ n) × Every (WayFits n) to × (length to ≤ n)

pub statement_reads : (n : ℕ) (s : Statement) (rest : List Word) → StatementFits n s → statement n (of_statement s ++ rest) ≡ found s rest
unfolding statement next same is_name small in_name from_side from_head
statement_reads n (constraint c to) rest h =
    ap (λ (z : List Word). after (side n z) behind) (append_assoc (of_side c) (arrow ∷ (of_ways to ++ dot ∷ [])) rest)
    ∙ ap (λ (st : Step (List Literal)). after st behind) (side_reads n c (arrow ∷ ((of_ways to ++ dot ∷ []) ++ rest)) h.0 h.1 refl)
    ∙ ap (λ (z : List Word). after (ways n z) last) (append_assoc (of_ways to) (dot ∷ []) rest)
    ∙ ap (λ (st : Step (List (List Literal))). after st last) (ways_reads n to (dot ∷ rest) h.2 h.3 refl refl)
  where
    behind : List Literal → Walk Statement
    behind ls = next arrow (λ ws. after (ways n ws) (λ to ws. after (the dot ws) (λ _. give (constraint ls to)))) (from_side n ls)

    last : List (List Literal) → Walk Statement
    last to ws = after (the dot ws) (λ _. give (constraint c to))
statement_reads n (clause a []) rest h =
    ap (λ (z : List Word). after (side n z) behind)
    (append_assoc (of_atom a) (dot ∷ []) rest ∙ ap (λ (z : List Word). z ++ dot ∷ rest) (sym (append-nil (of_atom a))))
    ∙ ap (λ (st : Step (List Literal)). after st behind)
    (side_reads n (literal_of a true ∷ []) (dot ∷ rest) (every_more h.0 (every_none LiteralFine)) h.3 refl)
  where
    behind : List Literal → Walk Statement
    behind ls = next arrow (λ ws. after (ways n ws) (λ to ws. after (the dot ws) (λ _. give (constraint ls to)))) (from_side n ls)
statement_reads n (clause a (l ∷ ls)) rest h =
    ap (λ (z : List Word). after (side n z) behind)
    (append_assoc (of_atom a) (of_body (l ∷ ls) ++ dot ∷ []) rest ∙ ap (λ (z : List Word). z ++ body) (sym (append-nil (of_atom a))))
    ∙ ap (λ (st : Step (List Literal)). after st behind)
    (side_reads n (literal_of a true ∷ []) body (every_more h.0 (every_none LiteralFine)) h.3 refl)
    ∙ ap (λ (z : List Word). after (literals n z) last) (append_assoc (of_literals (l ∷ ls)) (dot ∷ []) rest)
    ∙ ap (λ (st : Step (List Literal)). after st last) (literals_reads n (l ∷ ls) (dot ∷ rest) tt h.1 h.2 refl)
  where
    body : List Word
    body = (of_body (l ∷ ls) ++ dot ∷ []) ++ rest

    behind : List Literal → Walk Statement
    behind ls = next arrow (λ ws. after (ways n ws) (λ to ws. after (the dot ws) (λ _. give (constraint ls to)))) (from_side n ls)

    last : List Literal → Walk Statement
    last body ws = after (the dot ws) (λ _. give (clause a body))

-- no statement begins with ?-
pub statement_starts : (s : Statement) (rest : List Word) → StatementFine s → starts query (of_statement s ++ rest) ≡ false
unfolding same is_name small in_name
statement_starts (clause a body) rest h =
    ap (starts query) (append_assoc (of_atom a) (of_body body ++ dot ∷ []) rest) ∙ atom_starts query a _ h.0 refl refl
statement_starts (constraint [] to) rest h = refl
statement_starts (constraint (l ∷ ls) to) rest h =
    ap (starts query)
    (append_assoc (of_literals (l ∷ ls)) (arrow ∷ (of_ways to ++ dot ∷ [])) rest ∙ append_assoc (of_literal l) (flat (λ (k : Literal). comma ∷ of_literal k) ls) _)
    ∙ literal_starts query l _ (every_first h.0) refl refl refl

pub document_reads : (m n : ℕ) (ss : List Statement) (goal : List Literal) (rest : List Word) → Every StatementFine ss → Every (StatementFits m) ss
    → LiteralsFine goal → length goal ≤ m → suc (length ss) ≤ n
    → document m n (of_document (record { statements = ss; goal = goal }) ++ rest) ≡ found (record { statements = ss; goal = goal }) rest
unfolding document goal_line next same is_name small in_name
document_reads m zero ss goal rest fine fits g few long = absurd (omega arith)
document_reads m (suc n) [] goal rest fine fits g few long =
    ap (λ (z : List Word). after (after (side m z) stop) whole) (append_assoc (of_side goal) (dot ∷ []) rest)
    ∙ ap (λ (st : Step (List Literal)). after (after st stop) whole) (side_reads m goal (dot ∷ rest) g few refl)
  where
    stop : List Literal → Walk (List Literal)
    stop ls ws = after (the dot ws) (λ _. give ls)

    whole : List Literal → Walk Document
    whole ls = give (record { statements = []; goal = ls })
document_reads m (suc n) (s ∷ ss) goal rest fine fits g few long =
    next_other query ended (λ ws. after (statement m ws) others) (of_document (record { statements = s ∷ ss; goal = goal }) ++ rest)
    (ap (starts query) apart ∙ statement_starts s _ (every_first fine))
    ∙ ap (λ (z : List Word). after (statement m z) others) apart
    ∙ ap (λ (st : Step Statement). after st others) (statement_reads m s _ (every_first fits))
    ∙ ap (λ (st : Step Document). after st (λ d. give (record { statements = s ∷ d.statements; goal = d.goal })))
    (document_reads m n ss goal rest (every_rest fine) (every_rest fits) g few (omega arith))
  where
    behind : List Word
    behind = query ∷ (of_side goal ++ dot ∷ [])

    apart : ((of_statement s ++ flat of_statement ss) ++ behind) ++ rest ≡ of_statement s ++ ((flat of_statement ss ++ behind) ++ rest)
    apart =
        ap (λ (z : List Word). z ++ rest) (append_assoc (of_statement s) (flat of_statement ss) behind)
        ∙ append_assoc (of_statement s) (flat of_statement ss ++ behind) rest

    ended : Walk Document
    ended ws = after (goal_line m ws) (λ ls. give (record { statements = []; goal = ls }))

    others : Statement → Walk Document
    others s ws = after (document m n ws) (λ d. give (record { statements = s ∷ d.statements; goal = d.goal }))

-- ---- the words are fuel enough

flat_few : {A : Type 0} (s : Word) (f : A → List Word) (xs : List A) → length xs ≤ length (flat (λ y. s ∷ f y) xs)
flat_few s f [] = omega arith
flat_few s f (x ∷ xs) = omega (arith, flat_few s f xs, length-append (f x) (flat (λ y. s ∷ f y) xs))

joined_few : {A : Type 0} (s : Word) (f : A → List Word) (xs : List A) → length xs ≤ suc (length (joined s f xs))
joined_few s f [] = omega arith
joined_few s f (x ∷ xs) = omega (arith, flat_few s f xs, length-append (f x) (flat (λ y. s ∷ f y) xs))

pub flat_each : {A : Type 0} (g : A → List Word) (xs : List A) (m : ℕ) → length (flat g xs) ≤ m → Every (λ (x : A). length (g x) ≤ m) xs
flat_each g [] m h = every_none (λ x. length (g x) ≤ m)
flat_each g (x ∷ xs) m h =
    every_more (omega (arith, length-append (g x) (flat g xs))) (flat_each g xs m (omega (arith, length-append (g x) (flat g xs))))

side_few : (ls : List Literal) → length ls ≤ suc (length (of_side ls))
side_few [] = omega arith
side_few (l ∷ ls) = joined_few comma of_literal (l ∷ ls)

ways_fit : (to : List (List Literal)) (m : ℕ) → Every WayFine to → suc (length (of_ways to)) ≤ m → Every (WayFits m) to × (length to ≤ m)
ways_fit [] m h long = (every_none (WayFits m), omega arith)
ways_fit (ls ∷ to) m h long =
    let f : length (of_ways (ls ∷ to)) ≡ length (of_literals ls) + length (flat (λ (k : List Literal). semicolon ∷ of_literals k) to)
    = length-append (of_literals ls) (flat (λ (k : List Literal). semicolon ∷ of_literals k) to) in
    (every_more (every_first h, omega (arith, joined_few comma of_literal ls)) (rest (omega arith)), omega (arith, joined_few semicolon of_literals (ls ∷ to)))
  where
    rest : length (flat (λ (k : List Literal). semicolon ∷ of_literals k) to) ≤ m → Every (WayFits m) to
    rest e ks i =
        let f : suc (length (of_literals ks)) ≤ m = flat_each (λ (k : List Literal). semicolon ∷ of_literals k) to m e ks i in
        (every_rest h ks i, omega (arith, joined_few comma of_literal ks))

statement_fits : (m : ℕ) (s : Statement) → StatementFine s → length (of_statement s) ≤ m → StatementFits m s
statement_fits m (clause a []) h long =
    let e : length (of_atom a ++ dot ∷ []) ≡ length (of_atom a) + 1 = length-append (of_atom a) (dot ∷ []) in
    (h.0, h.1, omega arith, omega arith)
statement_fits m (clause a (l ∷ ls)) h long =
    let body : List Word = of_literals (l ∷ ls) ++ dot ∷ [] in
    let e₁ : length (of_atom a ++ (neck ∷ body)) ≡ length (of_atom a) + length (neck ∷ body) = length-append (of_atom a) (neck ∷ body) in
    let e₂ : length body ≡ length (of_literals (l ∷ ls)) + 1 = length-append (of_literals (l ∷ ls)) (dot ∷ []) in
    let few : length (l ∷ ls) ≤ suc (length (of_literals (l ∷ ls))) = joined_few comma of_literal (l ∷ ls) in
    (h.0, h.1, omega arith, omega arith)
statement_fits m (constraint c to) h long =
    let last : List Word = of_ways to ++ dot ∷ [] in
    let e₁ : length (of_side c ++ (arrow ∷ last)) ≡ length (of_side c) + length (arrow ∷ last) = length-append (of_side c) (arrow ∷ last) in
    let e₂ : length last ≡ length (of_ways to) + 1 = length-append (of_ways to) (dot ∷ []) in
    let few : length c ≤ suc (length (of_side c)) = side_few c in
    let w = ways_fit to m h.1 (omega arith) in
    (h.0, omega arith, w.0, w.1)

pub statements_few : (ss : List Statement) → Every StatementFine ss → length ss ≤ length (flat of_statement ss)
statements_few [] h = omega arith
statements_few (s ∷ ss) h =
    let f : 1 ≤ length (of_statement s) = one s in
    omega (arith, statements_few ss (every_rest h), length-append (of_statement s) (flat of_statement ss))
  where
    one : (s : Statement) → 1 ≤ length (of_statement s)
    one (clause a body) = omega (arith, length-append (of_atom a) (of_body body ++ dot ∷ []), length-append (of_body body) (dot ∷ []))
    one (constraint c to) = omega (arith, length-append (of_side c) (arrow ∷ (of_ways to ++ dot ∷ [])))

-- what the words spell, the reader reads
pub parse_complete : (d : Document) → Fine d → parse_words (of_document d) ≡ reads d
parse_complete d h =
    ap (λ (z : List Word). over (document m m z)) (sym (append-nil (of_document d)))
    ∙ ap over (document_reads m m d.statements d.goal [] h.0 fits h.1 (omega (arith, side_few d.goal, e₁, e₂)) (omega (arith, statements_few d.statements h.0, e₁)))
  where
    m : ℕ
    m = length (of_document d)

    ss : List Word
    ss = flat of_statement d.statements

    goal : List Word
    goal = of_side d.goal ++ dot ∷ []

    e₁ : length (of_document d) ≡ length ss + suc (length goal)
    e₁ = length-append ss (query ∷ goal)

    e₂ : length goal ≡ length (of_side d.goal) + 1
    e₂ = length-append (of_side d.goal) (dot ∷ [])

    fits : Every (StatementFits m) d.statements
    fits s i = statement_fits m s (h.0 s i) (flat_each of_statement d.statements m (omega (arith, e₁)) s i)
