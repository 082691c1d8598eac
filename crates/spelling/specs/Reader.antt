-- The reader, after the grammar of paper 02, A1.1. It walks over the words; at each place it finds a thing and the words behind it, or
-- nothing. Nobody has to believe it: `Found` proves that it reads d exactly if the text spells d.
-- Assumes nothing.
use Rattle.std.specs.Prelude.{ℕ, zero, suc, Bool, true, false, List, [], ◌∷◌, length}
use Rattle.spelling.specs.paper.Words.{Word, same, abd, naf, close, comma, semicolon, dot, neck, arrow, query, true_word, false_word, is_name}
use Rattle.spelling.specs.Cut.{words}
use Rattle.spelling.specs.paper.Document.{Atom, Literal, Statement, clause, constraint, Document}

pub data Step (A : Type 0) : Type 0 where
  found : A → List Word → Step A
  nothing : Step A

abbrev pub Walk : Type 0 → Type 0
Walk A = List Word → Step A

infixl 10 ◌>>=◌ ◌>>◌
abbrev pub after : {A B : Type 0} → Step A → (A → Walk B) → Step B
after (found x ws) k = k x ws
after nothing k = nothing

abbrev pub ◌>>=◌ : {A B : Type 0} → Walk A → (A → Walk B) → Walk B
◌>>=◌ w k ws = after (w ws) k

abbrev pub ◌>>◌ : {A B : Type 0} → Walk A → Walk B → Walk B
◌>>◌ w v ws = after (w ws) (λ _. v)

abbrev pub give : {A : Type 0} → A → Walk A
give x ws = found x ws

abbrev pub never : {A : Type 0} → Walk A
never ws = nothing

-- where the next word is v, one walk behind it, else another from here
abbrev pub turn : {A : Type 0} → Bool → Walk A → Walk A → Word → Walk A
turn true w u x ws = w ws
turn false w u x ws = u (x ∷ ws)

unfoldable pub next : {A : Type 0} → Word → Walk A → Walk A → Walk A
next v w u [] = u []
next v w u (x ∷ ws) = turn (same x v) w u x ws

abbrev pub the : Word → Walk (Unit {0})
the v = next v (give tt) never

abbrev pub named : Bool → Word → Walk Word
named true x ws = found x ws
named false x ws = nothing

unfoldable pub name : Walk Word
name [] = nothing
name (x ∷ ws) = named (is_name x) x ws

-- "`abd(x)` marks an abducible, `naf(l)` a negation of either kind of atom"
abbrev pub atom_of : Word → Bool → Atom
atom_of n marked = record { name = n; marked = marked }

abbrev pub literal_of : Atom → Bool → Literal
literal_of a sign = record { atom = a; sign = sign }

unfoldable pub atom : Walk Atom
atom =
    next abd
    (do
      n ← name
      the close
      give (atom_of n true))
    (do
      n ← name
      give (atom_of n false))

unfoldable pub literal : Walk Literal
literal =
    next naf
    (do
      a ← atom
      the close
      give (literal_of a false))
    (do
      a ← atom
      give (literal_of a true))

-- one, and as long as the separator follows another; n is more than the separators
unfoldable pub separated : {A : Type 0} → Word → Walk A → ℕ → Walk (List A)
separated s item zero = never
separated s item (suc n) = do
  x ← item
  next s
      (do
        xs ← separated s item n
        give (x ∷ xs))
      (give (x ∷ []))

abbrev pub literals : ℕ → Walk (List Literal)
literals n = separated comma literal n

abbrev pub side : ℕ → Walk (List Literal)
side n = next true_word (give []) (literals n)

abbrev pub ways : ℕ → Walk (List (List Literal))
ways n = next false_word (give []) (separated semicolon (literals n) n)

-- what a clause's head goes on with
unfoldable pub from_head : ℕ → Bool → Atom → Walk Statement
from_head n false a = never
from_head n true a =
    next dot (give (clause a []))
    (do
      the neck
      body ← literals n
      the dot
      give (clause a body))

unfoldable pub from_side : ℕ → List Literal → Walk Statement
from_side n [] = never
from_side n (l ∷ []) = from_head n l.sign l.atom
from_side n (l ∷ m ∷ ls) = never

unfoldable pub statement : ℕ → Walk Statement
statement n = do
  ls ← side n
  next arrow
      (do
        to ← ways n
        the dot
        give (constraint ls to))
      (from_side n ls)

unfoldable pub goal_line : ℕ → Walk (List Literal)
goal_line n = do
  ls ← side n
  the dot
  give ls

unfoldable pub document : ℕ → ℕ → Walk Document
document m zero = never
document m (suc n) =
    next query
    (do
      ls ← goal_line m
      give (record { statements = []; goal = ls }))
    (do
      s ← statement m
      d ← document m n
      give (record { statements = s ∷ d.statements; goal = d.goal }))

pub data Parsed : Type 0 where
  reads : Document → Parsed
  unreadable : Parsed

-- nothing may stand behind the goal line
abbrev pub over : Step Document → Parsed
over nothing = unreadable
over (found d []) = reads d
over (found d (x ∷ ws)) = unreadable

abbrev pub parse_words : List Word → Parsed
parse_words ws = over (document (length ws) (length ws) ws)

unfoldable pub parse : List ℕ → Parsed
parse t = parse_words (words t)
