-- Paper 01, 3 and 4: what an image says, or the number under which it is refused; and paper 02, A2: the place of the refusal. Words in
-- quotation marks are theirs.
-- Assumes nothing.
use Rattle.std.specs.Prelude.{ℕ, zero, suc, ◌+◌, ◌-◌, ◌*◌, ◌/◌, ◌%◌, List, [], ◌∷◌, ◌++◌, length, get_or, leb, eqb}
use Rattle.base.specs.paper.Bools.{choose}
use Rattle.base.specs.paper.Lists.{flat}
use Rattle.image.specs.paper.Front.{version, version_at, length_at, atoms_at}
use Rattle.image.specs.paper.Book.{Lit, Clause, Constraint, Book, body_count, literal_count}
use Rattle.image.specs.paper.Walk.{Step, found, fault, Walk, give, ahead, behind, Finding, fine, wrong, unless, field_values, field_at, field, running, times, before, ◌>>=◌, ◌>>◌}
use Rattle.image.specs.paper.Faults.{Limits, limits, wrong_atoms, wrong_abducibles, wrong_count, wrong_lit, wrong_head, wrong_size, wrong_clause, body_of, wrong_conditions, wrong_alternative}
use Rattle.image.specs.paper.Loops.{loop_free, before_loop}
use Rattle.image.specs.paper.Spell.{of_alternative, of_clause}

-- "A literal is written as twice its atom's number, and one more if it is negated."
abbrev pub lit_of : ℕ → Lit
lit_of x = record { atom = x / 2; sign = eqb (x % 2) 0 }

module _ (image : List ℕ) where
  unfoldable pub literal : ℕ → Walk Lit
  literal atoms = do
    x ← field image (wrong_lit atoms)
    give (lit_of x)

  module _ (most : Limits) (atoms : ℕ) where
    -- "A clause's record: its length in bytes behind the length field itself, the head atom, the body literals."
    unfoldable pub clause : ℕ → ℕ → Walk Clause
    clause abducibles sum = do
      left ← behind (length image)
      size ← field image (wrong_clause left most.bodies sum)
      head ← field image (wrong_head atoms abducibles)
      body ← times (literal atoms) (body_of size)
      give (record { head = head; body = body })

    -- one alternative of a record that ends at `end`: literal count, literals
    unfoldable pub alternative : ℕ → ℕ → Walk (List Lit)
    alternative end sum = do
      left ← behind end
      count ← field image (wrong_alternative left most.literals sum)
      times (literal atoms) count

    -- "one behind another until the record's end"; n is at least the number of fields left
    unfoldable pub alternatives : ℕ → ℕ → ℕ → Walk (List (List Lit))
    alternatives end zero sum = give []
    alternatives end (suc n) sum = before end do
      first ← alternative end sum
      rest ← alternatives end n (sum + length first)
      give (first ∷ rest)

    -- the inside of a record that ends at `end`: "the number of conditions, the conditions, then the alternatives"
    unfoldable pub inside : ℕ → ℕ → ℕ → Walk Constraint
    inside end n sum = do
      left ← behind end
      count ← field image (wrong_conditions left most.literals sum)
      conditions ← times (literal atoms) count
      ways ← alternatives end n (sum + count)
      give (record { conditions = conditions; alternatives = ways })

    -- "A constraint's record: its length in bytes behind the length field itself", then its inside
    unfoldable pub constraint : ℕ → Walk Constraint
    constraint sum = do
      left ← behind (length image)
      size ← field image (wrong_size left)
      end ← ahead size
      inside end (size / 2) sum

  -- a count that may not pass its limit, then as many things
  unfoldable pub counted : {A : Type 0} → ℕ → (ℕ → Walk A) → Walk A
  counted most things = do
    count ← field image (wrong_count most)
    things count

  -- "The number of clauses and their records." "The number of constraints and their records."
  unfoldable pub clauses_and_constraints : Limits → ℕ → ℕ → Walk (List Clause × List Constraint)
  clauses_and_constraints most atoms abducibles = do
    clauses ← counted most.clauses (λ n. running (clause most atoms abducibles) body_count n 0)
    constraints ← counted most.constraints (λ n. running (constraint most atoms) literal_count n 0)
    give (clauses, constraints)

  -- "A and B." "The number of goal literals and these literals." Then clauses and constraints.
  unfoldable pub book : Limits → Walk Book
  book most = do
    atoms ← field image (wrong_atoms most.atoms)
    abducibles ← field image (wrong_abducibles most.abducibles atoms)
    goal ← counted most.goal (times (literal atoms))
    both ← clauses_and_constraints most atoms abducibles
    give (record { atoms = atoms; abducibles = abducibles; goal = goal; clauses = both.0; constraints = both.1 })

  -- "Bytes behind the last constraint are a 4."
  unfoldable pub ends : Walk (Unit {0})
  ends at = choose (eqb at (length image)) (found tt at) (fault 4 at)

  unfoldable pub whole : Limits → Walk Book
  whole most = do
    b ← book most
    ends
    give b

  -- four bytes, the highest first
  unfoldable pub length_field : ℕ
  length_field = field_values * field_at image length_at + field_at image (length_at + 2)

  -- "1 comes before 2, and 2 before 3": "the image has fewer than 5 bytes", "the version byte is not 1", "the length field is not the
  -- number of bytes behind it"
  unfoldable pub wrong_front : Finding
  wrong_front =
      unless (leb atoms_at (length image)) 1
      (unless (eqb (get_or image version_at 0) version) 2
      (unless (eqb length_field (length image - atoms_at)) 3 fine))

  -- A2.1: of 1 "the image's length", of 2 0, of 3 1
  unfoldable pub front_place : ℕ → ℕ
  front_place n = choose (eqb n 1) (length image) (choose (eqb n 2) version_at length_at)

-- the place of a clause's record, by the clauses before it: behind A, B, the goal, the number of clauses and their records
unfoldable pub record_place : Book → List Clause → ℕ
record_place b cs = atoms_at + 2 * length (b.atoms ∷ b.abducibles ∷ (of_alternative b.goal ++ (length b.clauses ∷ flat of_clause cs)))

-- of 9 "where the first clause with a head that depends on itself has its record length"
unfoldable pub loop_place : Book → ℕ
loop_place b = record_place b (before_loop b b.clauses)

pub data Decoded : Type 0 where
  accepted : Book → Decoded
  refused : (number place : ℕ) → Decoded

-- "Where none of them applies, the image is walked once from its front, and the first fault that is met is answered", at its place. "An
-- image without a fault in the walk is then tested for 9."
unfoldable pub in_order : List ℕ → Finding → Step Book → Decoded
in_order s (wrong n) walked = refused n (front_place s n)
in_order s fine (fault n at) = refused n at
in_order s fine (found b at) = choose (loop_free b) (accepted b) (refused 9 (loop_place b))

unfoldable pub decode : List ℕ → Decoded
decode s = in_order s (wrong_front s) (whole s limits atoms_at)
