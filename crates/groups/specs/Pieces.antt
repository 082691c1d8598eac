-- The pieces of an image: its front, the goal, the clauses, the constraints, and a group's facts.
-- Assumes nothing.
use Rattle.std.specs.Prelude.{ℕ, ◌+◌, ◌*◌, ◌/◌, ◌%◌, ◌≤◌, ◌≡◌, refl}
use Rattle.std.proofs.Math.Path.{ap}
use mathlib.Core.List.{List, [], ◌∷◌, ◌++◌, map}
use native.Mathlib.Omega.{arith}
use Rattle.std.proofs.Math.ListN.{length}
use Rattle.base.specs.paper.Lists.{flat}
use Rattle.image.specs.paper.Book.{Clause, Book}
use Rattle.image.specs.paper.Front.{version, atoms_at}
use Rattle.image.specs.paper.Walk.{field_values}
use Rattle.image.specs.paper.Decode.{decode, accepted}
use Rattle.image.specs.Spell.{of_lits, of_alternative, of_clause, of_constraint, two}
use Rattle.image.specs.Laid.{length_two}
use Rattle.image.specs.Shown.{clause_count_at, constraint_count_at, clause_place, no_clause, skip_all, shown}
use Rattle.groups.specs.paper.Group.{fact}

-- ---- the pieces

-- the version, and the number of bytes behind the front
unfoldable pub front_bytes : ℕ → List ℕ
front_bytes n = version ∷ two (n / field_values) ++ two (n % field_values)

pub length_front : (n : ℕ) → length (front_bytes n) ≡ atoms_at
unfolding front_bytes
length_front n = refl

-- A and B and the goal; the clauses; the constraints with their count; and facts
abbrev pub goal_bytes : Book → List ℕ
goal_bytes b = flat two (b.atoms ∷ b.abducibles ∷ of_alternative b.goal)

abbrev pub clause_bytes : Book → List ℕ
clause_bytes b = flat two (flat of_clause b.clauses)

abbrev pub constraint_bytes : Book → List ℕ
constraint_bytes b = flat two (length b.constraints ∷ flat of_constraint b.constraints)

abbrev pub fact_bytes : List ℕ → List ℕ
fact_bytes xs = flat two (flat of_clause (map fact xs))

-- a fact's record length, which is that of a head, and how many bytes its record has
abbrev pub fact_size : ℕ
fact_size = 2

abbrev pub fact_length : ℕ
fact_length = 2 + fact_size

pub length_fact_bytes : (xs : List ℕ) → length (fact_bytes xs) ≡ fact_length * length xs
length_fact_bytes [] = refl
length_fact_bytes (x ∷ xs) = omega (arith, length_fact_bytes xs)

-- ---- of an accepted image

module _ (s : List ℕ) (b : Book) (e : decode s ≡ accepted b) where
  pub constraints_place : clause_count_at s + 2 + length (clause_bytes b) ≡ constraint_count_at s
  unfolding constraint_count_at
  constraints_place =
      let sh = shown s b e in
      omega (
        arith,
        length_two (flat of_clause b.clauses),
        ap (clause_place s) sh.clauses,
        skip_all (λ (c : Clause). c.head ∷ of_lits c.body) no_clause s (clause_count_at s + 2) b.clauses sh.all_clauses,
      )

  pub clauses_before : clause_count_at s + 2 ≤ constraint_count_at s
  clauses_before = omega (arith, constraints_place)
