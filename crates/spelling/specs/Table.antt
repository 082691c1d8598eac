-- The table of names that the code keeps: each name once, as it is first mentioned; and whether a later mention differs in its mark.
-- Assumes nothing.
use Rattle.std.specs.Prelude.{ℕ, ◌+◌, ◌-◌, ◌/◌, ◌%◌, ◌<◌, ◌≡◌, Bool, true, false, ◌&&◌, ◌||◌, not, List, [], ◌∷◌, ◌++◌, length, get_or, take, drop, eqb}
use Rattle.base.specs.paper.Bools.{choose}
use Rattle.base.specs.paper.Lists.{any, filter}
use Rattle.spelling.specs.paper.Words.{Word, same, in_name}
use Rattle.spelling.specs.Cut.{span}
use Rattle.spelling.specs.paper.Document.{Atom}

abbrev pub name_of : Atom → Word
name_of a = a.name

abbrev pub is_marked : Atom → Bool
is_marked a = a.marked

-- is the name in the table?
abbrev pub known : List Atom → Word → Bool
known table n = any (λ (e : Atom). same n e.name) table

unfoldable pub enter : List Atom → Atom → List Atom
enter table a = choose (known table a.name) table (table ++ a ∷ [])

-- mentions entered one after the other
abbrev pub entered : List Atom → List Atom → List Atom
entered table [] = table
entered table (a ∷ ms) = entered (enter table a) ms

abbrev pub table_of : List Atom → List Atom
table_of ms = entered [] ms

-- are the two marks different?
abbrev pub other : Bool → Bool → Bool
other true t = not t
other false t = t

-- does an entry have this name and another mark?
abbrev pub differs : List Atom → Atom → Bool
differs table a = any (λ (e : Atom). same a.name e.name && other e.marked a.marked) table

-- does some mention differ from the entry of its name?
abbrev pub clashes : List Atom → List Atom → Bool
clashes table [] = false
clashes table (a ∷ ms) = differs table a || clashes (enter table a) ms

-- ---- an entry, as the code keeps it: twice the place in the text of the name's first mention, and one more if that is marked

abbrev pub name_at : List ℕ → ℕ → Word
name_at text at = (span in_name (drop at text)).front

abbrev pub bit : Bool → ℕ
bit t = choose t 1 0

pub record Entry (text : List ℕ) (e : ℕ) (a : Atom) : Type 0 where
  pub within : e / 2 < length text
  pub name : name_at text (e / 2) ≡ a.name
  pub mark : e % 2 ≡ bit a.marked

abbrev pub no_atom : Atom
no_atom = record { name = []; marked = false }

-- the entries of a table, by their places
abbrev pub Entries : List ℕ → List ℕ → List Atom → Type 0
Entries text entries table = (i : ℕ) → i < length table → Entry text (get_or entries i 0) (get_or table i no_atom)

-- ---- the names' numbers, from the entries: how many of its kind stand before an entry, behind all abducibles where it is not marked

abbrev pub marked_entry : ℕ → Bool
marked_entry e = eqb (e % 2) 1

abbrev pub marks_in : List ℕ → ℕ
marks_in entries = length (filter marked_entry entries)

abbrev pub number_in : ℕ → List ℕ → ℕ → ℕ
number_in marked entries i =
    choose (marked_entry (get_or entries i 0)) (marks_in (take i entries)) (marked + (i - marks_in (take i entries)))
