-- What holds of the fixed words and of the names holds of each word of a document.
-- Assumes nothing.
use Rattle.std.specs.Prelude.{Bool, true, false, List, [], ◌∷◌}
use Rattle.base.specs.paper.Lists.{Every, flat}
use Rattle.base.specs.Lists.{every_none, every_more, every_first, every_rest, every_both, every_left, every_right}
use Rattle.base.specs.Flat.{∈_map}
use Rattle.spelling.specs.paper.Words.{Word, abd, naf, close, comma, semicolon, dot, neck, arrow, query, true_word, false_word}
use Rattle.spelling.specs.paper.Document.{Atom, Literal, Statement, clause, constraint, Document, of_atom, of_literal, of_literals, of_side, of_ways, of_body, of_statement, of_document}
use Rattle.spelling.specs.paper.Said.{atoms_in, mentions_in, mentions}
use Rattle.spelling.specs.Reader.{atom_of, literal_of}

-- the fixed words of a part, and those between and behind parts
pub record Inner (P : Word → Type 0) : Type 0 where
  pub abds : P abd
  pub nafs : P naf
  pub closes : P close
  pub commas : P comma
  pub necks : P neck
  pub trues : P true_word
  pub falses : P false_word

pub record Outer (P : Word → Type 0) : Type 0 where
  pub semicolons : P semicolon
  pub dots : P dot
  pub arrows : P arrow
  pub queries : P query

abbrev pub Named : (Word → Type 0) → List Literal → Type 0
Named P ls = Every (λ (l : Literal). P l.atom.name) ls

module _ (P : Word → Type 0) (f : Inner P) where
  pub each_atom : (a : Atom) → P a.name → Every P (of_atom a)
  each_atom a h = go a.marked
    where
      go : (t : Bool) → Every P (of_atom (atom_of a.name t))
      go true = every_more f.abds (every_more h (every_more f.closes (every_none P)))
      go false = every_more h (every_none P)

  each_literal : (l : Literal) → P l.atom.name → Every P (of_literal l)
  each_literal l h = go l.sign
    where
      go : (t : Bool) → Every P (of_literal (literal_of l.atom t))
      go true = each_atom l.atom h
      go false = every_more f.nafs (every_both (each_atom l.atom h) (every_more f.closes (every_none P)))

  each_other : (ls : List Literal) → Named P ls → Every P (flat (λ (k : Literal). comma ∷ of_literal k) ls)
  each_other [] h = every_none P
  each_other (l ∷ ls) h = every_more f.commas (every_both (each_literal l (every_first h)) (each_other ls (every_rest h)))

  pub each_literals : (ls : List Literal) → Named P ls → Every P (of_literals ls)
  each_literals [] h = every_none P
  each_literals (l ∷ ls) h = every_both (each_literal l (every_first h)) (each_other ls (every_rest h))

  pub each_side : (ls : List Literal) → Named P ls → Every P (of_side ls)
  each_side [] h = every_more f.trues (every_none P)
  each_side (l ∷ ls) h = each_literals (l ∷ ls) h

  pub each_body : (ls : List Literal) → Named P ls → Every P (of_body ls)
  each_body [] h = every_none P
  each_body (l ∷ ls) h = every_more f.necks (each_literals (l ∷ ls) h)

  module _ (o : Outer P) where
    abbrev Called : Atom → Type 0
    Called a = P a.name

    named : (ls : List Literal) → Every Called (atoms_in ls) → Named P ls
    named ls h l i = h l.atom (∈_map (λ (k : Literal). k.atom) i)

    each_way : (to : List (List Literal)) → Every Called (flat atoms_in to) → Every P (flat (λ (k : List Literal). semicolon ∷ of_literals k) to)
    each_way [] h = every_none P
    each_way (ls ∷ to) h =
        every_more o.semicolons (every_both (each_literals ls (named ls (every_left (flat atoms_in to) h))) (each_way to (every_right (atoms_in ls) h)))

    each_ways : (to : List (List Literal)) → Every Called (flat atoms_in to) → Every P (of_ways to)
    each_ways [] h = every_more f.falses (every_none P)
    each_ways (ls ∷ to) h = every_both (each_literals ls (named ls (every_left (flat atoms_in to) h))) (each_way to (every_right (atoms_in ls) h))

    ended : Every P (dot ∷ [])
    ended = every_more o.dots (every_none P)

    each_statement : (s : Statement) → Every Called (mentions_in s) → Every P (of_statement s)
    each_statement (clause a body) h = every_both (each_atom a (every_first h)) (every_both (each_body body (named body (every_rest h))) ended)
    each_statement (constraint c to) h =
        every_both (each_side c (named c (every_left (flat atoms_in to) h)))
        (every_more o.arrows (every_both (each_ways to (every_right (atoms_in c) h)) ended))

    each_statements : (ss : List Statement) → Every Called (flat mentions_in ss) → Every P (flat of_statement ss)
    each_statements [] h = every_none P
    each_statements (s ∷ ss) h = every_both (each_statement s (every_left (flat mentions_in ss) h)) (each_statements ss (every_right (mentions_in s) h))

    pub each_word : (d : Document) → Every Called (mentions d) → Every P (of_document d)
    each_word d h =
        every_both (each_statements d.statements (every_left (atoms_in d.goal) h))
        (every_more o.queries (every_both (each_side d.goal (named d.goal (every_right (flat mentions_in d.statements) h))) ended))
