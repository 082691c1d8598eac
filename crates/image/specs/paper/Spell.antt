-- How a book is written: each of its parts as field values, in the order of paper 01, 3.3, and the whole image as bytes.
-- Assumes nothing.
use Rattle.std.specs.Prelude.{ℕ, ◌+◌, ◌*◌, ◌/◌, ◌%◌, List, [], ◌∷◌, ◌++◌, map, length}
use Rattle.base.specs.paper.Bools.{choose}
use Rattle.base.specs.paper.Lists.{flat}
use Rattle.image.specs.paper.Front.{version}
use Rattle.image.specs.paper.Book.{Lit, Clause, Constraint, Book}
use Rattle.image.specs.paper.Walk.{byte_values, field_values}

abbrev pub of_lit : Lit → ℕ
of_lit l = 2 * l.atom + choose l.sign 0 1

abbrev pub of_lits : List Lit → List ℕ
of_lits ls = map of_lit ls

-- a list with its count in front
abbrev pub of_alternative : List Lit → List ℕ
of_alternative ls = length ls ∷ of_lits ls

-- a record: its length in bytes, then its fields
abbrev pub of_record : List ℕ → List ℕ
of_record fields = 2 * length fields ∷ fields

abbrev pub of_clause : Clause → List ℕ
of_clause c = of_record (c.head ∷ of_lits c.body)

abbrev pub of_constraint : Constraint → List ℕ
of_constraint k = of_record (of_alternative k.conditions ++ flat of_alternative k.alternatives)

abbrev pub of_both : List Clause → List Constraint → List ℕ
of_both cs ks = (length cs ∷ flat of_clause cs) ++ (length ks ∷ flat of_constraint ks)

unfoldable pub words : Book → List ℕ
words b = b.atoms ∷ b.abducibles ∷ (of_alternative b.goal ++ of_both b.clauses b.constraints)

-- two bytes, the high one first
abbrev pub two : ℕ → List ℕ
two x = x / byte_values % byte_values ∷ x % byte_values ∷ []

-- "The first byte is the version, 1. The next four are the number of bytes behind them. Two-byte fields make up the rest."
unfoldable pub encode : Book → List ℕ
encode b = version ∷ two (2 * length (words b) / field_values) ++ two (2 * length (words b) % field_values) ++ flat two (words b)
