-- A group record, paper 02, A4.2, and the book while its group is looked at, A4.3. Words in quotation marks are A4's.
-- Assumes nothing.
use Rattle.std.specs.Prelude.{ℕ, zero, suc, ◌+◌, ◌-◌, ◌*◌, ◌/◌, ◌%◌, Bool, ◌&&◌, List, [], ◌∷◌, ◌++◌, map, leb, ltb, eqb, length, get_or}
use Rattle.image.specs.paper.Book.{Clause, Book}
use Rattle.image.specs.paper.Walk.{field_at}
use Rattle.image.specs.paper.Spell.{encode}

-- "one byte, the version, which is 1"
abbrev pub group_version : ℕ
group_version = 1

-- "then numbers of two bytes, highest byte first: how many bytes follow, the group's number, and the atoms that were observed, of which
-- there may be 32"
abbrev pub size_at : ℕ
size_at = 1

abbrev pub number_at : ℕ
number_at = size_at + 2

abbrev pub observed_at : ℕ
observed_at = number_at + 2

abbrev pub most_observed : ℕ
most_observed = 32

-- how many bytes may follow at most
abbrev pub most_size : ℕ
most_size = 2 + 2 * most_observed

-- "A record is malformed, 41, where it has fewer than 3 bytes, is of another version, or has a length that is wrong for the bytes behind
-- it, odd, less than 2 or more than 66."
unfoldable pub well_formed : List ℕ → Bool
well_formed s =
    leb number_at (length s)
    && (eqb (get_or s 0 0) group_version
    && (eqb (field_at s size_at) (length s - number_at)
    && (eqb (field_at s size_at % 2) 0
    && (leb 2 (field_at s size_at)
    && leb (field_at s size_at) most_size))))

-- n fields from a place on
unfoldable pub fields_at : List ℕ → ℕ → ℕ → List ℕ
fields_at s at zero = []
fields_at s at (suc n) = field_at s at ∷ fields_at s (at + 2) n

-- how many atoms were observed, and these atoms
abbrev pub observed_count : List ℕ → ℕ
observed_count s = (field_at s size_at - 2) / 2

unfoldable pub observed : List ℕ → List ℕ
observed s = fields_at s observed_at (observed_count s)

-- an atom "is a defined one of the book"
abbrev pub is_defined : Book → ℕ → Bool
is_defined b x = leb b.abducibles x && ltb x b.atoms

abbrev pub fact : ℕ → Clause
fact x = record { head = x; body = [] }

-- "for each of these atoms the book gets one more fact, behind its clauses, while this group is looked at"
unfoldable pub with_facts : Book → List ℕ → Book
with_facts b xs =
    record {
      atoms = b.atoms;
      abducibles = b.abducibles;
      goal = b.goal;
      clauses = b.clauses ++ map fact xs;
      constraints = b.constraints;
    }

-- the image of that book, which the verdicts are on
abbrev pub group_image : Book → List ℕ → List ℕ
group_image b xs = encode (with_facts b xs)
