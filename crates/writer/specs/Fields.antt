-- The fields of an image, read off the codes of a document's words, and the image itself. A part is what stands before a `;`, a `.` or a
-- `--->`. Of a part only names and `naf(` matter: each name is a literal. A part that ends with `.`, behind another such end, is a clause;
-- one that ends with `--->` has a constraint's conditions, and each part behind it is an alternative, up to the `.`.
-- Assumes nothing.
use Rattle.std.specs.Prelude.{ℕ, ◌+◌, ◌-◌, ◌*◌, ◌/◌, ◌%◌, ◌≡◌, Bool, ◌&&◌, List, [], ◌∷◌, ◌++◌, length, get_or, take, drop, leb, eqb}
use Rattle.base.specs.paper.Bools.{choose}
use Rattle.base.specs.paper.Lists.{flat}
use Rattle.image.specs.paper.Front.{version}
use Rattle.image.specs.paper.Walk.{field_values}
use Rattle.image.specs.paper.Spell.{of_record, two}
use Rattle.spelling.specs.Codes.{naf_code, semicolon_code, dot_code, arrow_code, first_name}
use Rattle.spelling.specs.Table.{bit}

-- an atom's number, by the place of its name among the names
abbrev pub Numbers : Type 0
Numbers = ℕ → ℕ

abbrev pub number_in : List ℕ → Numbers
number_in numbers i = get_or numbers i 0

-- what a head's number is taken times, and a literal's; and what is added behind `naf(`
abbrev pub head_factor : ℕ
head_factor = 1

abbrev pub literal_factor : ℕ
literal_factor = 2

abbrev pub negated : ℕ
negated = 1

unfoldable pub sign_after : ℕ → ℕ → ℕ
sign_after sign k = choose (eqb k naf_code) negated sign

-- the fields of the names, the first by this factor and sign
unfoldable pub names_from : Numbers → ℕ → ℕ → List ℕ → List ℕ
names_from number factor sign [] = []
names_from number factor sign (k ∷ ks) =
    let name = (factor * number (k - first_name) + sign) ∷ names_from number literal_factor 0 ks in
    let other = names_from number factor (sign_after sign k) ks in
    choose (leb first_name k) name other

-- a head and the literals behind it; literals
abbrev pub rule_of : Numbers → List ℕ → List ℕ
rule_of number ks = names_from number head_factor 0 ks

abbrev pub lits_of : Numbers → List ℕ → List ℕ
lits_of number ks = names_from number literal_factor 0 ks

-- ---- parts

pub record Part : Type 0 where
  pub inside : List ℕ
  pub end : ℕ

abbrev pub part : List ℕ → ℕ → Part
part inside end = record { inside = inside; end = end }

unfoldable pub is_end : ℕ → Bool
is_end k = leb semicolon_code k && leb k arrow_code

abbrev pub longer : ℕ → List Part → List Part
longer k [] = []
longer k (p ∷ ps) = part (k ∷ p.inside) p.end ∷ ps

unfoldable pub parts_of : List ℕ → List Part
parts_of [] = []
parts_of (k ∷ ks) =
    let ps = parts_of ks in
    choose (is_end k) (part [] k ∷ ps) (longer k ps)

-- ---- records

-- with the count in front
abbrev pub counted : List ℕ → List ℕ
counted fs = length fs ∷ fs

-- an alternative; `false` has no literals, and is none
abbrev pub way_of : List ℕ → List ℕ
way_of [] = []
way_of (x ∷ fs) = counted (x ∷ fs)

-- the alternatives up to the `.`
unfoldable pub ways_of : Numbers → List Part → List ℕ
ways_of number [] = []
ways_of number (p ∷ ps) = way_of (lits_of number p.inside) ++ choose (eqb p.end dot_code) [] (ways_of number ps)

-- the inside of a record of a kind, which is the end of its first part
unfoldable pub inside_of : Numbers → ℕ → List ℕ → List Part → List ℕ
inside_of number kind ks ps = choose (eqb kind dot_code) (rule_of number ks) (counted (lits_of number ks) ++ ways_of number ps)

-- a record of this kind starts with a part behind a `.`
unfoldable pub starts : ℕ → ℕ → ℕ → Bool
starts kind last end = eqb last dot_code && eqb end kind

unfoldable pub records_of : Numbers → ℕ → ℕ → List Part → List ℕ
records_of number kind last [] = []
records_of number kind last (p ∷ ps) =
    choose (starts kind last p.end) (of_record (inside_of number kind p.inside ps)) [] ++ records_of number kind p.end ps

unfoldable pub count_of : ℕ → ℕ → List Part → ℕ
count_of kind last [] = 0
count_of kind last (p ∷ ps) = bit (starts kind last p.end) + count_of kind p.end ps

abbrev pub statements_of : Numbers → ℕ → List Part → List ℕ
statements_of number kind ps = count_of kind dot_code ps ∷ records_of number kind dot_code ps

-- ---- the image

-- A, B, the goal behind the place of its `?-`, the clauses, the constraints
abbrev pub fields_by : Numbers → List ℕ → ℕ → ℕ → ℕ → List ℕ
fields_by number codes goal atoms abducibles =
    let ps = parts_of (take goal codes) in
    atoms ∷ abducibles ∷ (counted (lits_of number (drop (goal + 1) codes)) ++ (statements_of number dot_code ps ++ statements_of number arrow_code ps))

-- the version and the length in front, as image/specs/paper/Spell has them
unfoldable pub framed : List ℕ → List ℕ
framed fs = version ∷ two (2 * length fs / field_values) ++ two (2 * length fs % field_values) ++ flat two fs

abbrev pub image_by : List ℕ → ℕ → List ℕ → ℕ → ℕ → List ℕ
image_by codes goal numbers atoms abducibles = framed (fields_by (number_in numbers) codes goal atoms abducibles)

-- the bytes s are written from the front of a room on, and the others are as they were
abbrev pub AtFront : List ℕ → List ℕ → List ℕ → ℕ → Type 0
AtFront s before after r = (r ≡ length s) × (after ≡ s ++ drop (length s) before)
