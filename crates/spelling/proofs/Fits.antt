-- The fields of the image of what a text of at most 32,768 bytes says are all below 65,536: nothing wraps, though only just.
-- Assumes nothing.
use Rattle.std.specs.Prelude.{ℕ, suc, ◌+◌, ◌-◌, ◌*◌, ◌/◌, ◌≤◌, ◌<◌, ◌≡◌, refl, Bool, true, false, not, List, [], ◌∷◌, ◌++◌, map, length}
use Rattle.std.proofs.Common.{arith, sym, ap, subst, length-append}
use Rattle.std.proofs.lemmas.List.{length-map}
use Rattle.base.specs.paper.Bools.{choose}
use Rattle.base.specs.paper.Lists.{Every, flat, sum, put, filter}
use Rattle.base.specs.Lists.{every_none, every_more, every_first, every_rest, every_both}
use Rattle.base.specs.Parts.{filter_length}
use Rattle.base.specs.Flat.{flat_append}
use Rattle.image.specs.paper.Walk.{field_values}
use Rattle.image.specs.Encode.{Field}
use Rattle.image.specs.paper.Spell.{of_alternative, of_clause, of_constraint, of_lits as fields_of, words as fields}
use Rattle.spelling.specs.paper.Words.{Word, same, comma, semicolon, dot, neck, arrow, query}
use Rattle.spelling.specs.paper.Document.{Atom, Literal, Statement, clause, constraint, Document, of_atom, of_literal, of_literals, of_side, of_ways, of_statement, of_document, WayFine, StatementFine}
use Rattle.spelling.specs.Reader.{atom_of, literal_of}
use Rattle.spelling.specs.paper.Spelt.{Spaced}
use Rattle.spelling.specs.Cutting.{Apart}
use Rattle.spelling.proofs.Apart.{document_apart}
use Rattle.spelling.proofs.Complete.{flat_each, statements_few}
use Rattle.spelling.specs.paper.Answer.{longest_text, Says}
use Rattle.spelling.proofs.Numbering.{number_most}
use Rattle.spelling.specs.paper.Said.{atoms_in, mentions_in, mentions, firsts, names_of, abducibles, numbered, number_of, lit_in, clauses_in, constraints_in, book_of}

-- ---- a text has at least as many bytes as words

spaced_length : (t : List ℕ) (ws : List Word) → Spaced t ws → Apart ws → length ws ≤ length t
spaced_length t [] s a = omega arith
spaced_length t ([] ∷ ws) s a = absurd (subst (λ (b : Bool). choose b ⊥ (Unit {0})) a.0 tt)
spaced_length t ((b ∷ w) ∷ ws) s a =
    let long : length t ≡ length (s.0 ++ b ∷ (w ++ s.1)) = ap length s.3 in
    omega (arith, spaced_length s.1 ws s.4 a.2, length-append s.0 (b ∷ (w ++ s.1)), length-append w s.1)

-- ---- words and mentions

atom_some : (a : Atom) → 1 ≤ length (of_atom a)
atom_some a = go a.marked
  where
    go : (t : Bool) → 1 ≤ length (of_atom (atom_of a.name t))
    go true = omega arith
    go false = omega arith

literal_some : (l : Literal) → 1 ≤ length (of_literal l)
literal_some l = go l.sign
  where
    go : (t : Bool) → 1 ≤ length (of_literal (literal_of l.atom t))
    go true = atom_some l.atom
    go false = omega arith

flat_lits : (ls : List Literal) → 2 * length ls ≤ length (flat (λ (k : Literal). comma ∷ of_literal k) ls)
flat_lits [] = omega arith
flat_lits (l ∷ ls) =
    omega (arith, flat_lits ls, literal_some l, length-append (of_literal l) (flat (λ (k : Literal). comma ∷ of_literal k) ls))

literals_long : (ls : List Literal) → 2 * length ls ≤ suc (length (of_literals ls))
literals_long [] = omega arith
literals_long (l ∷ ls) =
    omega (arith, flat_lits ls, literal_some l, length-append (of_literal l) (flat (λ (k : Literal). comma ∷ of_literal k) ls))

side_long : (ls : List Literal) → (2 * length ls ≤ suc (length (of_side ls))) × (1 ≤ length (of_side ls))
side_long [] = (omega arith, omega arith)
side_long (l ∷ ls) = (literals_long (l ∷ ls), omega (arith, literals_long (l ∷ ls)))

flat_ways : (to : List (List Literal)) → 2 * sum length to ≤ length (flat (λ (k : List Literal). semicolon ∷ of_literals k) to)
flat_ways [] = omega arith
flat_ways (ls ∷ to) =
    omega (arith, flat_ways to, literals_long ls, length-append (of_literals ls) (flat (λ (k : List Literal). semicolon ∷ of_literals k) to))

ways_long : (to : List (List Literal)) → 2 * sum length to ≤ suc (length (of_ways to))
ways_long [] = omega arith
ways_long (ls ∷ to) =
    omega (arith, flat_ways to, literals_long ls, length-append (of_literals ls) (flat (λ (k : List Literal). semicolon ∷ of_literals k) to))

ways_some : (to : List (List Literal)) → Every WayFine to → length to ≤ sum length to
ways_some [] h = omega arith
ways_some ([] ∷ to) h = absurd (every_first h).0
ways_some ((l ∷ ls) ∷ to) h = omega (arith, ways_some to (every_rest h))

length_mentioned : (to : List (List Literal)) → length (flat atoms_in to) ≡ sum length to
length_mentioned [] = refl
length_mentioned (ls ∷ to) = omega (arith, length_mentioned to, length-append (atoms_in ls) (flat atoms_in to), length-map ls (λ (l : Literal). l.atom))

-- a statement: twice its mentions, and the fields of its record
statement_long : (s : Statement) → 2 * length (mentions_in s) ≤ length (of_statement s)
statement_long (clause a []) = omega (arith, atom_some a, length-append (of_atom a) (dot ∷ []))
statement_long (clause a (l ∷ ls)) =
    let body : List Word = of_literals (l ∷ ls) ++ dot ∷ [] in
    omega (
      arith,
      atom_some a,
      length-append (of_atom a) (neck ∷ body),
      length-append (of_literals (l ∷ ls)) (dot ∷ []),
      literals_long (l ∷ ls),
      length-map (l ∷ ls) (λ (l : Literal). l.atom),
    )
statement_long (constraint c to) =
    let last : List Word = of_ways to ++ dot ∷ [] in
    omega (
      arith,
      length-append (of_side c) (arrow ∷ last),
      length-append (of_ways to) (dot ∷ []),
      (side_long c).0,
      ways_long to,
      length_mentioned to,
      length-append (atoms_in c) (flat atoms_in to),
      length-map c (λ (l : Literal). l.atom),
    )

statements_long : (ss : List Statement) → 2 * length (flat mentions_in ss) ≤ length (flat of_statement ss)
statements_long [] = omega arith
statements_long (s ∷ ss) =
    omega (
      arith,
      statement_long s,
      statements_long ss,
      length-append (mentions_in s) (flat mentions_in ss),
      length-append (of_statement s) (flat of_statement ss),
    )

document_long : (d : Document) → (2 * length (mentions d) ≤ length (of_document d)) × (length (flat of_statement d.statements) + 3 ≤ length (of_document d))
document_long d =
    let goal : List Word = of_side d.goal ++ dot ∷ [] in
    let e₁ : length (of_document d) ≡ length (flat of_statement d.statements) + suc (length goal) = length-append (flat of_statement d.statements) (query ∷ goal) in
    let e₂ : length goal ≡ length (of_side d.goal) + 1 = length-append (of_side d.goal) (dot ∷ []) in
    let e₃ : length (mentions d) ≡ length (flat mentions_in d.statements) + length (atoms_in d.goal) = length-append (flat mentions_in d.statements) (atoms_in d.goal) in
    let e₄ : length (atoms_in d.goal) ≡ length d.goal = length-map d.goal (λ (l : Literal). l.atom) in
    let s = side_long d.goal in
    (omega (arith, statements_long d.statements, s.0), omega (arith, s.1))

-- ---- names

firsts_length : (ws : List Word) → length (firsts ws) ≤ length ws
unfolding firsts
firsts_length [] = omega arith
firsts_length (w ∷ ws) = omega (arith, firsts_length ws, filter_length (λ v. not (same v w)) (firsts ws))

filter_parts : {A : Type 0} (p : A → Bool) (l : List A) → length (filter p l) + length (filter (λ a. not (p a)) l) ≡ length l
filter_parts p [] = refl
filter_parts p (a ∷ l) = go (p a) (filter_parts p l)
  where
    go : (t : Bool) → length (filter p l) + length (filter (λ a. not (p a)) l) ≡ length l
        → length (put t a (filter p l)) + length (put (not t) a (filter (λ a. not (p a)) l)) ≡ suc (length l)
    go true e = omega (arith, e)
    go false e = omega (arith, e)

names_length : (kind : Atom → Bool) (ms : List Atom) → length (names_of kind ms) ≤ length (filter kind ms)
names_length kind ms =
    omega (arith, firsts_length (map (λ (a : Atom). a.name) (filter kind ms)), length-map (filter kind ms) (λ (a : Atom). a.name))

numbered_length : (d : Document) → length (numbered d) ≤ length (mentions d)
numbered_length d =
    omega (
      arith,
      length-append (abducibles d) (names_of (λ a. not a.marked) (mentions d)),
      names_length (λ a. a.marked) (mentions d),
      names_length (λ a. not a.marked) (mentions d),
      filter_parts (λ (a : Atom). a.marked) (mentions d),
    )

-- ---- fields

-- the most names: with each mention there are two words at least
abbrev most_names : ℕ
most_names = longest_text / 2

module _ (names : List Word) (few : length names ≤ most_names) where
  lits_field : (ls : List Literal) → Every Field (fields_of (map (lit_in names) ls))
  lits_field [] = every_none Field
  lits_field (l ∷ ls) = every_more (go l.sign) (lits_field ls)
    where
      go : (t : Bool) → 2 * number_of names l.atom.name + choose t 0 1 < field_values
      go true = omega (arith, few, number_most names l.atom.name)
      go false = omega (arith, few, number_most names l.atom.name)

  alternative_field : (ls : List Literal) → length ls < field_values → Every Field (of_alternative (map (lit_in names) ls))
  alternative_field ls h = every_more (omega (arith, h, length-map ls (lit_in names))) (lits_field ls)

  ways_field : (to : List (List Literal)) → sum length to < field_values → Every Field (flat of_alternative (map (map (lit_in names)) to))
  ways_field [] h = every_none Field
  ways_field (ls ∷ to) h = every_both (alternative_field ls (omega (arith, h))) (ways_field to (omega (arith, h)))

  length_fields : (ls : List Literal) → length (fields_of (map (lit_in names) ls)) ≡ length ls
  length_fields [] = refl
  length_fields (l ∷ ls) = ap suc (length_fields ls)

  length_ways : (to : List (List Literal)) → length (flat of_alternative (map (map (lit_in names)) to)) ≡ length to + sum length to
  length_ways [] = refl
  length_ways (ls ∷ to) =
      omega (
        arith,
        length_ways to,
        length_fields ls,
        length-append (of_alternative (map (lit_in names) ls)) (flat of_alternative (map (map (lit_in names)) to)),
      )

  clauses_field : (s : Statement) → length (of_statement s) + 3 ≤ longest_text → Every Field (flat of_clause (clauses_in names s))
  clauses_field (constraint c to) h = every_none Field
  clauses_field (clause a body) h =
      let m : 2 * length (a ∷ atoms_in body) ≤ length (of_statement (clause a body)) = statement_long (clause a body) in
      let n : length (atoms_in body) ≡ length body = length-map body (λ (l : Literal). l.atom) in
      every_both
      (every_more (omega (arith, h, m, n, length_fields body)) (every_more (omega (arith, few, number_most names a.name)) (lits_field body)))
      (every_none Field)

  constraints_field : (s : Statement) → StatementFine s → length (of_statement s) + 3 ≤ longest_text → Every Field (flat of_constraint (constraints_in names s))
  constraints_field (clause a body) f h = every_none Field
  constraints_field (constraint c to) f h =
      let last : List Word = of_ways to ++ dot ∷ [] in
      let e₁ : length (of_side c ++ arrow ∷ last) ≡ length (of_side c) + suc (length last) = length-append (of_side c) (arrow ∷ last) in
      let e₂ : length last ≡ length (of_ways to) + 1 = length-append (of_ways to) (dot ∷ []) in
      let s : 2 * length c ≤ suc (length (of_side c)) = (side_long c).0 in
      let o : 1 ≤ length (of_side c) = (side_long c).1 in
      let w : 2 * sum length to ≤ suc (length (of_ways to)) = ways_long to in
      let k : length to ≤ sum length to = ways_some to f.1 in
      let i =
      length-append (of_alternative (map (lit_in names) c)) (flat of_alternative (map (map (lit_in names)) to)) in
      every_both
      (every_more (omega (arith, h, e₁, e₂, s, o, w, k, i, length_fields c, length_ways to))
      (every_both (alternative_field c (omega (arith, h, e₁, e₂, s))) (ways_field to (omega (arith, h, e₁, e₂, w)))))
      (every_none Field)

nested : {A B : Type 0} (f : A → List B) (g : B → List ℕ) (xs : List A) → Every (λ x. Every Field (flat g (f x))) xs → Every Field (flat g (flat f xs))
nested f g [] h = every_none Field
nested f g (x ∷ xs) h =
    subst (Every Field) (sym (flat_append g (f x) (flat f xs))) (every_both (every_first h) (nested f g xs (every_rest h)))

clauses_few : (names : List Word) (ss : List Statement) → length (flat (clauses_in names) ss) ≤ length ss
clauses_few names [] = omega arith
clauses_few names (clause a body ∷ ss) = omega (arith, clauses_few names ss)
clauses_few names (constraint c to ∷ ss) = omega (arith, clauses_few names ss)

constraints_few : (names : List Word) (ss : List Statement) → length (flat (constraints_in names) ss) ≤ length ss
constraints_few names [] = omega arith
constraints_few names (clause a body ∷ ss) = omega (arith, constraints_few names ss)
constraints_few names (constraint c to ∷ ss) = omega (arith, constraints_few names ss)

-- every field of the book of a text of at most 32 KiB fits into two bytes
pub fields_fit : (t : List ℕ) (d : Document) → Says t d → Every Field (fields (book_of d))
unfolding fields
fields_fit t d (h, s) =
    let names : List Word = numbered d in
    let ss : List Statement = d.statements in
    let w : length (of_document d) ≤ length t = spaced_length t (of_document d) s.0 (document_apart d s.1) in
    let m : 2 * length (mentions d) ≤ length (of_document d) = (document_long d).0 in
    let r : length (flat of_statement ss) + 3 ≤ length (of_document d) = (document_long d).1 in
    let n : length names ≤ length (mentions d) = numbered_length d in
    let few : length names ≤ most_names = omega arith in
    let a : length (abducibles d) ≤ length names = omega (arith, length-append (abducibles d) (names_of (λ a. not a.marked) (mentions d))) in
    let k : length ss ≤ length (flat of_statement ss) = statements_few ss s.1.0 in
    let each : Every (λ (z : Statement). length (of_statement z) ≤ longest_text - 3) ss = flat_each of_statement ss (longest_text - 3) (omega arith) in
    let g : length (mentions d) ≡ length (flat mentions_in ss) + length (atoms_in d.goal) = length-append (flat mentions_in ss) (atoms_in d.goal) in
    let l : length (atoms_in d.goal) ≡ length d.goal = length-map d.goal (λ (l : Literal). l.atom) in
    every_more (omega arith)
    (every_more (omega arith)
    (every_both (alternative_field names few d.goal (omega arith))
    (every_both
    (every_more (omega (arith, clauses_few names ss)) (nested (clauses_in names) of_clause ss (λ z i. clauses_field names few z (omega (arith, each z i)))))
    (every_more (omega (arith, constraints_few names ss)) (nested (constraints_in names) of_constraint ss (λ z i. constraints_field names few z (s.1.0 z i) (omega (arith, each z i))))))))

-- ---- how many fields

nested_length : {B : Type 0} (f : Statement → List B) (g : B → List ℕ) (ss : List Statement) → Every (λ s. length (flat g (f s)) ≤ 2 * length (of_statement s)) ss
    → length (flat g (flat f ss)) ≤ 2 * length (flat of_statement ss)
nested_length f g [] h = omega arith
nested_length f g (s ∷ ss) h =
    let e : length (flat g (f s ++ flat f ss)) ≡ length (flat g (f s) ++ flat g (flat f ss)) = ap length (flat_append g (f s) (flat f ss)) in
    omega (
      arith,
      every_first h,
      nested_length f g ss (every_rest h),
      length-append (flat g (f s)) (flat g (flat f ss)),
      length-append (of_statement s) (flat of_statement ss),
    )

module _ (names : List Word) (few : length names ≤ most_names) where
  clauses_short : (s : Statement) → length (flat of_clause (clauses_in names s)) ≤ 2 * length (of_statement s)
  clauses_short (constraint c to) = omega arith
  clauses_short (clause a body) =
      let m : 2 * length (a ∷ atoms_in body) ≤ length (of_statement (clause a body)) = statement_long (clause a body) in
      let n : length (atoms_in body) ≡ length body = length-map body (λ (l : Literal). l.atom) in
      omega (arith, length_fields names few body, length-append (of_clause (record { head = number_of names a.name; body = map (lit_in names) body })) [])

  constraints_short : (s : Statement) → StatementFine s → length (flat of_constraint (constraints_in names s)) ≤ 2 * length (of_statement s)
  constraints_short (clause a body) f = omega arith
  constraints_short (constraint c to) f =
      let last : List Word = of_ways to ++ dot ∷ [] in
      let e₁ : length (of_side c ++ arrow ∷ last) ≡ length (of_side c) + suc (length last) = length-append (of_side c) (arrow ∷ last) in
      let e₂ : length last ≡ length (of_ways to) + 1 = length-append (of_ways to) (dot ∷ []) in
      let s : 2 * length c ≤ suc (length (of_side c)) = (side_long c).0 in
      let w : 2 * sum length to ≤ suc (length (of_ways to)) = ways_long to in
      let k : length to ≤ sum length to = ways_some to f.1 in
      let i =
      length-append (of_alternative (map (lit_in names) c)) (flat of_alternative (map (map (lit_in names)) to)) in
      omega (
        arith,
        i,
        length_fields names few c,
        length_ways names few to,
        length-append (of_constraint (record { conditions = map (lit_in names) c; alternatives = map (map (lit_in names)) to })) [],
      )

pub fields_few : (t : List ℕ) (d : Document) → Says t d → 2 * length (fields (book_of d)) < field_values * field_values
unfolding fields
fields_few t d (h, s) =
    let names : List Word = numbered d in
    let ss : List Statement = d.statements in
    let w : length (of_document d) ≤ length t = spaced_length t (of_document d) s.0 (document_apart d s.1) in
    let m : 2 * length (mentions d) ≤ length (of_document d) = (document_long d).0 in
    let r : length (flat of_statement ss) + 3 ≤ length (of_document d) = (document_long d).1 in
    let n : length names ≤ length (mentions d) = numbered_length d in
    let few : length names ≤ most_names = omega arith in
    let g : length (mentions d) ≡ length (flat mentions_in ss) + length (atoms_in d.goal) = length-append (flat mentions_in ss) (atoms_in d.goal) in
    let l : length (atoms_in d.goal) ≡ length d.goal = length-map d.goal (λ (l : Literal). l.atom) in
    let cs : List ℕ = flat of_clause (flat (clauses_in names) ss) in
    let ks : List ℕ = flat of_constraint (flat (constraints_in names) ss) in
    let goal : List ℕ = of_alternative (map (lit_in names) d.goal) in
    let c : length cs ≤ 2 * length (flat of_statement ss) = nested_length (clauses_in names) of_clause ss (λ z i. clauses_short names few z) in
    let k : length ks ≤ 2 * length (flat of_statement ss) = nested_length (constraints_in names) of_constraint ss (λ z i. constraints_short names few z (s.1.0 z i)) in
    let rules : List ℕ = (length (flat (clauses_in names) ss) ∷ cs) ++ (length (flat (constraints_in names) ss) ∷ ks) in
    let e₁ : length rules ≡ suc (length cs) + suc (length ks) = length-append (length (flat (clauses_in names) ss) ∷ cs) (length (flat (constraints_in names) ss) ∷ ks) in
    let e₂ : length (goal ++ rules) ≡ length goal + length rules = length-append goal rules in
    omega (arith, length_fields names few d.goal)
