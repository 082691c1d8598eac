-- Paper 02, A2.1, in words: "where the faulty field begins, or would begin if it is missing". Which field is due at each place of an image,
-- what its faults are, and that every field before it is sound; told field by field from paper 01, 3 and 4, without the walk.
-- Assumes nothing.
use Rattle.std.specs.Prelude.{ℕ, zero, suc, ◌+◌, ◌-◌, ◌*◌, ◌≤◌, ◌<◌, ◌≡◌, List, ◌∷◌, ◌++◌, ltb, length, get_or}
use Rattle.base.specs.paper.Bools.{choose}
use Rattle.base.specs.paper.Lists.{Every}
use Rattle.image.specs.paper.Front.{version, version_at, length_at, atoms_at}
use Rattle.image.specs.paper.Book.{Clause, Book}
use Rattle.image.specs.paper.Walk.{Finding, fine, wrong, field_at, found}
use Rattle.image.specs.paper.Faults.{limits, wrong_atoms, wrong_abducibles, wrong_count, wrong_lit, wrong_head, wrong_size, body_of, wrong_clause, wrong_conditions, wrong_alternative}
use Rattle.image.specs.paper.Loops.{Depends}
use Rattle.image.specs.paper.Decode.{whole, length_field, wrong_front, record_place}

-- ---- the field that is due

-- `more` counts those of the same kind that come behind it, `sum` the literals before it that count towards its limit, and `end` is the
-- place behind its record.
pub data Due : Type 0 where
  atoms : Due
  abducibles : (a : ℕ) → Due
  goal_count : (a b : ℕ) → Due
  literal : (a more : ℕ) (behind : Due) → Due
  clause_count : (a b : ℕ) → Due
  clause_length : (a b more sum : ℕ) → Due
  head : (a b body : ℕ) (behind : Due) → Due
  constraint_count : (a : ℕ) → Due
  constraint_length : (a more sum : ℕ) → Due
  condition_count : (a end more sum : ℕ) → Due
  alternative_count : (a end more sum : ℕ) → Due
  nothing : Due

-- n literals, and what is due behind them
abbrev pub literals : ℕ → ℕ → Due → Due
literals a zero behind = behind
literals a (suc more) behind = literal a more behind

-- n constraints, then nothing
abbrev pub constraints : ℕ → ℕ → ℕ → Due
constraints a zero sum = nothing
constraints a (suc more) sum = constraint_length a more sum

-- n clauses, then the constraints
abbrev pub clauses : ℕ → ℕ → ℕ → ℕ → Due
clauses a b zero sum = constraint_count a
clauses a b (suc more) sum = clause_length a b more sum

-- before its end a record has one more alternative; behind it come the other constraints
abbrev pub ways : ℕ → ℕ → ℕ → ℕ → ℕ → Due
ways a end more sum at = choose (ltb at end) (alternative_count a end more sum) (constraints a more sum)

-- what is due behind a field at this place with the value x
unfoldable pub next : ℕ → Due → ℕ → Due
next at atoms x = abducibles x
next at (abducibles a) x = goal_count a x
next at (goal_count a b) x = literals a x (clause_count a b)
next at (literal a more behind) x = literals a more behind
next at (clause_count a b) x = clauses a b x 0
next at (clause_length a b more sum) x = head a b (body_of x) (clauses a b more (sum + body_of x))
next at (head a b body behind) x = literals a body behind
next at (constraint_count a) x = constraints a x 0
next at (constraint_length a more sum) x = condition_count a (at + 2 + x) more sum
next at (condition_count a end more sum) x = literals a x (ways a end more (sum + x) (at + 2 + 2 * x))
next at (alternative_count a end more sum) x = literals a x (ways a end more (sum + x) (at + 2 + 2 * x))
next at nothing x = nothing

-- the faults of its value, in an image of so many bytes; bytes where nothing is due are left over
unfoldable pub fault_of : ℕ → ℕ → Due → ℕ → Finding
fault_of bytes at atoms x = wrong_atoms limits.atoms x
fault_of bytes at (abducibles a) x = wrong_abducibles limits.abducibles a x
fault_of bytes at (goal_count a b) x = wrong_count limits.goal x
fault_of bytes at (literal a more behind) x = wrong_lit a x
fault_of bytes at (clause_count a b) x = wrong_count limits.clauses x
fault_of bytes at (clause_length a b more sum) x = wrong_clause (bytes - (at + 2)) limits.bodies sum x
fault_of bytes at (head a b body behind) x = wrong_head a b x
fault_of bytes at (constraint_count a) x = wrong_count limits.constraints x
fault_of bytes at (constraint_length a more sum) x = wrong_size (bytes - (at + 2)) x
fault_of bytes at (condition_count a end more sum) x = wrong_conditions (end - (at + 2)) limits.literals sum x
fault_of bytes at (alternative_count a end more sum) x = wrong_alternative (end - (at + 2)) limits.literals sum x
fault_of bytes at nothing x = wrong 4

-- ---- every field before it is sound

-- this is due at this place, and every field before the place is there and has no fault
pub data Sound (s : List ℕ) : ℕ → Due → Type 0 where
  front : Sound s atoms_at atoms
  behind : {at : ℕ} {d : Due} → Sound s at d → at + 2 ≤ length s → fault_of (length s) at d (field_at s at) ≡ fine → Sound s (at + 2) (next at d (field_at s at))

-- what is due at the place has this fault: it is not there, its value is at fault, or nothing is due and a byte is left over
pub data Faulty (s : List ℕ) (at : ℕ) : Due → ℕ → Type 0 where
  missing : {d : Due} → (d ≡ nothing → ⊥) → length s < at + 2 → Faulty s at d 4
  unsound : {d : Due} {n : ℕ} → at + 2 ≤ length s → fault_of (length s) at d (field_at s at) ≡ wrong n → Faulty s at d n
  left_over : at < length s → Faulty s at nothing 4

-- ---- each refusal and its place

-- the clause is the first of the book's whose head depends on itself; these are before it
pub record FirstOnLoop (b : Book) (before : List Clause) (c : Clause) : Type 0 where
  pub rest : List Clause
  pub all : b.clauses ≡ before ++ c ∷ rest
  pub loops : Depends b.clauses c.head c.head
  pub others : Every (λ (d : Clause). Depends b.clauses d.head d.head → ⊥) before

-- the image is refused with this number at this place
pub data Placed (s : List ℕ) : ℕ → ℕ → Type 0 where
  short : length s < atoms_at → Placed s 1 (length s)
  unknown : atoms_at ≤ length s → (get_or s version_at 0 ≡ version → ⊥) → Placed s 2 version_at
  other_length : atoms_at ≤ length s → get_or s version_at 0 ≡ version → (length_field s ≡ length s - atoms_at → ⊥) → Placed s 3 length_at
  fault : {n at : ℕ} {d : Due} → wrong_front s ≡ fine → Sound s at d → Faulty s at d n → Placed s n at
  loop : {b : Book} {before : List Clause} {c : Clause} → wrong_front s ≡ fine → Sound s (length s) nothing → whole s limits atoms_at ≡ found b (length s)
      → FirstOnLoop b before c → Placed s 9 (record_place b before)
