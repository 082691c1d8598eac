-- The limits of paper 01, 3.4, and the faults of each field, 4.3 to 4.6: "is it there (4), does it keep its limit (5), does it name an
-- atom of the book (6) and, as a head, a defined one (7)?" Each is the refusal's number that the field's value earns, in that order; that
-- the field is there is `Walk`'s.
-- Assumes nothing.
use Rattle.std.specs.Prelude.{ℕ, ◌+◌, ◌-◌, ◌*◌, ◌/◌, ◌%◌, leb, ltb, eqb}
use Rattle.image.specs.paper.Walk.{Finding, fine, unless, and_then}

pub record Limits : Type 0 where
  pub atoms : ℕ
  pub abducibles : ℕ
  pub goal : ℕ
  pub clauses : ℕ
  pub bodies : ℕ
  pub constraints : ℕ
  pub literals : ℕ

-- the most of each; A is 1 at least, and B no more than A (`wrong_atoms`, `wrong_abducibles`)
abbrev pub limits : Limits
limits =
    record {
      atoms = 256;
      abducibles = 64;
      goal = 16;
      clauses = 512;
      bodies = 1024;
      constraints = 128;
      literals = 1024;
    }

unfoldable pub wrong_atoms : ℕ → ℕ → Finding
wrong_atoms most x = unless (leb 1 x) 5 (unless (leb x most) 5 fine)

unfoldable pub wrong_abducibles : ℕ → ℕ → ℕ → Finding
wrong_abducibles most atoms x = unless (leb x most) 5 (unless (leb x atoms) 5 fine)

-- the count of goal literals, of clauses, of constraints
unfoldable pub wrong_count : ℕ → ℕ → Finding
wrong_count most x = unless (leb x most) 5 fine

unfoldable pub wrong_lit : ℕ → ℕ → Finding
wrong_lit atoms x = unless (ltb (x / 2) atoms) 6 fine

unfoldable pub wrong_head : ℕ → ℕ → ℕ → Finding
wrong_head atoms abducibles x = unless (ltb x atoms) 6 (unless (leb abducibles x) 7 fine)

-- A record: "First its length: odd, below 2, or past the image's end is 4."
unfoldable pub wrong_size : ℕ → ℕ → Finding
wrong_size left x = unless (eqb (x % 2) 0) 4 (unless (leb 2 x) 4 (unless (leb x left) 4 fine))

-- the literals of a clause's body, told from its record length: all fields but the head
abbrev pub body_of : ℕ → ℕ
body_of size = size / 2 - 1

-- A clause's record length: "Then the body literals so far with this clause's own."
unfoldable pub wrong_clause : ℕ → ℕ → ℕ → ℕ → Finding
wrong_clause left most sum x = and_then (wrong_size left x) (unless (leb (sum + body_of x) most) 5 fine)

-- The number of conditions: "it must fit into what is left of the record (4), and then the total must keep its limit (5)."
unfoldable pub wrong_conditions : ℕ → ℕ → ℕ → ℕ → Finding
wrong_conditions left most sum x = unless (leb (2 * x) left) 4 (unless (leb (sum + x) most) 5 fine)

-- An alternative's count "may not be 0 (8)"; then as the number of conditions.
unfoldable pub wrong_alternative : ℕ → ℕ → ℕ → ℕ → Finding
wrong_alternative left most sum x = unless (leb 1 x) 8 (wrong_conditions left most sum x)
