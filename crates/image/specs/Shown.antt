-- Where in an accepted image each part of its book stands. The places follow the image's own counts and record lengths, so
-- that code finds them by reading fields.
-- Assumes nothing.
use Prim.Native.Nat.{ℕ, zero, suc, ◌+◌, ◌*◌, ◌≤◌, ◌<◌}
use Rattle.std.specs.Prelude.{◌≡◌, refl, get_or}
use Rattle.std.proofs.Common.{sym, ap, ap₂, ◌∙◌}
use mathlib.Core.List.{List, [], ◌∷◌, ◌++◌}
use native.Mathlib.Omega.{arith}
use Rattle.std.proofs.Math.ListN.{length, length-append}
use Rattle.base.specs.paper.Lists.{flat}
use Rattle.image.specs.paper.Book.{Lit, Clause, Constraint, Book}
use Rattle.image.specs.paper.Front.{atoms_at}
use Rattle.image.specs.paper.Walk.{field_at}
use Rattle.image.specs.paper.Faults.{body_of}
use Rattle.image.specs.paper.Decode.{lit_of, accepted, decode}
use Rattle.image.specs.Spell.{of_lits, of_alternative, of_record, of_clause, of_constraint, words, Stands}
use Rattle.image.specs.StandsLaws.{stands_at, stands_left, stands_right, stands_value, stands_there, stands_rest}
use Rattle.image.specs.Finds.{length_lits, lit_in_lem}
use Rattle.image.specs.Written.{decode_written}

-- ---- the front, behind A

-- B, the goal count, and the goal literals
abbrev pub abducibles_at : ℕ
abducibles_at = atoms_at + 2

abbrev pub goals_at : ℕ
goals_at = abducibles_at + 2

abbrev pub goal_at : ℕ
goal_at = goals_at + 2

-- ---- what stands at a place

-- n literals from this place on
unfoldable pub lits_at : List ℕ → ℕ → ℕ → List Lit
lits_at s at zero = []
lits_at s at (suc n) = lit_of (field_at s at) ∷ lits_at s (at + 2) n

-- the clause whose record starts here
unfoldable pub clause_at : List ℕ → ℕ → Clause
clause_at s at = record { head = field_at s (at + 2); body = lits_at s (at + 4) (body_of (field_at s at)) }

-- the place behind the record that starts here
abbrev pub behind_record : List ℕ → ℕ → ℕ
behind_record s at = at + 2 + field_at s at

-- the place behind n records
unfoldable pub skip : List ℕ → ℕ → ℕ → ℕ
skip s at zero = at
skip s at (suc n) = behind_record s (skip s at n)

-- n clauses from this place on
unfoldable pub clauses_at : List ℕ → ℕ → ℕ → List Clause
clauses_at s at zero = []
clauses_at s at (suc n) = clause_at s at ∷ clauses_at s (behind_record s at) n

-- behind the goal come the clause count and the clauses, then the constraint count and the constraints
unfoldable pub clause_count_at : List ℕ → ℕ
clause_count_at s = goal_at + 2 * field_at s goals_at

abbrev pub clause_place : List ℕ → ℕ → ℕ
clause_place s i = skip s (clause_count_at s + 2) i

unfoldable pub constraint_count_at : List ℕ → ℕ
constraint_count_at s = clause_place s (field_at s (clause_count_at s))

abbrev pub constraint_place : List ℕ → ℕ → ℕ
constraint_place s i = skip s (constraint_count_at s + 2) i

abbrev pub no_clause : Clause
no_clause = record { head = 0; body = [] }

abbrev pub no_constraint : Constraint
no_constraint = record { conditions = []; alternatives = [] }

-- ---- laws

pub lits_at_lem : (s : List ℕ) (at : ℕ) (ls : List Lit) → Stands s at (of_lits ls) → lits_at s at (length ls) ≡ ls
unfolding lits_at
lits_at_lem s at [] h = refl
lits_at_lem s at (l ∷ ls) h = ap₂ ◌∷◌ (ap lit_of (stands_value h) ∙ lit_in_lem l) (lits_at_lem s (at + 2) ls (stands_rest h))

pub clause_at_lem : (s : List ℕ) (at : ℕ) (c : Clause) → Stands s at (of_clause c) → clause_at s at ≡ c
unfolding clause_at
clause_at_lem s at c h =
    let rest = stands_rest h in
    let lits : length (of_lits c.body) ≡ length c.body = length_lits c.body in
    let size : field_at s at ≡ 2 * suc (length (of_lits c.body)) = stands_value h in
    let n : body_of (field_at s at) ≡ length c.body = omega arith in
    let four : at + 2 + 2 ≡ at + 4 = omega arith in
    λ i. record {
      head = stands_value rest i;
      body = (ap (lits_at s (at + 4)) n ∙ lits_at_lem s (at + 4) c.body (stands_at four (stands_rest rest))) i;
    }

-- a record that stands ends where its length says
pub record_ends : (s : List ℕ) (at : ℕ) (xs : List ℕ) → Stands s at (of_record xs) → behind_record s at ≡ at + 2 * length (of_record xs)
record_ends s at xs h = let size : field_at s at ≡ 2 * length xs = stands_value h in omega arith

pub clauses_at_lem : (s : List ℕ) (at : ℕ) (cs : List Clause) → Stands s at (flat of_clause cs) → clauses_at s at (length cs) ≡ cs
unfolding clauses_at
clauses_at_lem s at [] h = refl
clauses_at_lem s at (c ∷ cs) h =
    let first : Stands s at (of_clause c) = stands_left (of_clause c) (flat of_clause cs) h in
    let rest : Stands s (at + 2 * length (of_clause c)) (flat of_clause cs) = stands_right (of_clause c) h in
    ap₂ ◌∷◌ (clause_at_lem s at c first)
    (clauses_at_lem s (behind_record s at) cs (stands_at (sym (record_ends s at (c.head ∷ of_lits c.body) first)) rest))

skip_first : (s : List ℕ) (at i : ℕ) → skip s (behind_record s at) i ≡ skip s at (suc i)
unfolding skip
skip_first s at zero = refl
skip_first s at (suc i) = ap (behind_record s) (skip_first s at i)

-- records that stand one behind the other, each found by skipping those before it
module _ {A : Type 0} (inner : A → List ℕ) (d : A) (s : List ℕ) where
  pub skip_stands : (at : ℕ) (xs : List A) → Stands s at (flat (λ x. of_record (inner x)) xs)
      → (i : ℕ) → i < length xs → Stands s (skip s at i) (of_record (inner (get_or xs i d)))
  unfolding skip
  skip_stands at [] h i k = absurd (omega arith)
  skip_stands at (x ∷ xs) h zero k = stands_left (of_record (inner x)) (flat (λ y. of_record (inner y)) xs) h
  skip_stands at (x ∷ xs) h (suc i) k =
      let first = stands_left (of_record (inner x)) (flat (λ y. of_record (inner y)) xs) h in
      let rest = stands_right (of_record (inner x)) h in
      stands_at (skip_first s at i) (skip_stands (behind_record s at) xs (stands_at (sym (record_ends s at (inner x) first)) rest) i (omega arith))

  pub skip_all : (at : ℕ) (xs : List A) → Stands s at (flat (λ x. of_record (inner x)) xs)
      → skip s at (length xs) ≡ at + 2 * length (flat (λ x. of_record (inner x)) xs)
  unfolding skip
  skip_all at [] h = omega arith
  skip_all at (x ∷ xs) h =
      let first = stands_left (of_record (inner x)) (flat (λ y. of_record (inner y)) xs) h in
      let rest = stands_right (of_record (inner x)) h in
      let ends : behind_record s at ≡ at + 2 * length (of_record (inner x)) = record_ends s at (inner x) first in
      let r : skip s (behind_record s at) (length xs) ≡ behind_record s at + 2 * length (flat (λ y. of_record (inner y)) xs) =
      skip_all (behind_record s at) xs (stands_at (sym ends) rest) in
      omega (arith, skip_first s at (length xs), length-append (of_record (inner x)) (flat (λ y. of_record (inner y)) xs))

-- ---- an accepted image shows its book

pub record Shown (s : List ℕ) (b : Book) : Type 0 where
  pub atoms : field_at s atoms_at ≡ b.atoms
  pub abducibles : field_at s abducibles_at ≡ b.abducibles
  pub goals : field_at s goals_at ≡ length b.goal
  pub goal : Stands s goal_at (of_lits b.goal)
  pub clauses : field_at s (clause_count_at s) ≡ length b.clauses
  pub all_clauses : Stands s (clause_count_at s + 2) (flat of_clause b.clauses)
  pub clause : (i : ℕ) → i < length b.clauses → Stands s (clause_place s i) (of_clause (get_or b.clauses i no_clause))
  pub constraints : field_at s (constraint_count_at s) ≡ length b.constraints
  pub all_constraints : Stands s (constraint_count_at s + 2) (flat of_constraint b.constraints)
  pub constraint : (i : ℕ) → i < length b.constraints → Stands s (constraint_place s i) (of_constraint (get_or b.constraints i no_constraint))
  pub front : goal_at + 2 * length b.goal + 2 ≤ constraint_count_at s
  pub fits : constraint_count_at s + 2 ≤ length s
  pub over : constraint_place s (length b.constraints) ≡ length s

pub words_shown : (s : List ℕ) (b : Book) → Stands s atoms_at (words b) → length s ≡ atoms_at + 2 * length (words b) → Shown s b
unfolding words clause_count_at constraint_count_at
words_shown s b st long =
    let goal : List ℕ = of_alternative b.goal in
    let cs : List ℕ = length b.clauses ∷ flat of_clause b.clauses in
    let ks : List ℕ = length b.constraints ∷ flat of_constraint b.constraints in
    let st₁ = stands_rest st in
    let st₂ : Stands s goals_at (goal ++ (cs ++ ks)) = stands_rest st₁ in
    let stGoal : Stands s goals_at goal = stands_left goal (cs ++ ks) st₂ in
    let n : field_at s goals_at ≡ length b.goal = stands_value stGoal in
    let lits : length (of_lits b.goal) ≡ length b.goal = length_lits b.goal in
    let there : goals_at + 2 * length goal ≡ clause_count_at s = omega arith in
    let stRules : Stands s (clause_count_at s) (cs ++ ks) = stands_at there (stands_right goal st₂) in
    let stClauses : Stands s (clause_count_at s) cs = stands_left cs ks stRules in
    let m : field_at s (clause_count_at s) ≡ length b.clauses = stands_value stClauses in
    let all : Stands s (clause_count_at s + 2) (flat of_clause b.clauses) = stands_rest stClauses in
    let skipped : clause_place s (length b.clauses) ≡ clause_count_at s + 2 + 2 * length (flat of_clause b.clauses) =
    skip_all (λ (c : Clause). c.head ∷ of_lits c.body) no_clause s (clause_count_at s + 2) b.clauses all in
    let place : constraint_count_at s ≡ clause_place s (length b.clauses) = ap (clause_place s) m in
    let behind : clause_count_at s + 2 * length cs ≡ constraint_count_at s = omega arith in
    let stConstraints : Stands s (constraint_count_at s) ks = stands_at behind (stands_right cs stRules) in
    let all' : Stands s (constraint_count_at s + 2) (flat of_constraint b.constraints) = stands_rest stConstraints in
    let inner : Constraint → List ℕ = λ k. of_alternative k.conditions ++ flat of_alternative k.alternatives in
    let skipped' : constraint_place s (length b.constraints) ≡ constraint_count_at s + 2 + 2 * length (flat of_constraint b.constraints) =
    skip_all inner no_constraint s (constraint_count_at s + 2) b.constraints all' in
    record {
      atoms = stands_value st;
      abducibles = stands_value st₁;
      goals = n;
      goal = stands_rest stGoal;
      clauses = m;
      all_clauses = all;
      clause = skip_stands (λ (c : Clause). c.head ∷ of_lits c.body) no_clause s (clause_count_at s + 2) b.clauses all;
      constraints = stands_value stConstraints;
      all_constraints = all';
      constraint = skip_stands inner no_constraint s (constraint_count_at s + 2) b.constraints all';
      front = omega arith;
      fits = stands_there stConstraints;
      over = omega (arith, length-append goal (cs ++ ks), length-append cs ks);
    }

pub shown : (s : List ℕ) (b : Book) → decode s ≡ accepted b → Shown s b
shown s b e = let w = decode_written s b e in words_shown s b w.stands w.over

-- the goal's place is within the image
pub shown_front : {s : List ℕ} {b : Book} → Shown s b → goal_at ≤ length s
shown_front sh = omega (arith, sh.front, sh.fits)

-- and so is the clause count
pub shown_clauses : {s : List ℕ} {b : Book} → Shown s b → clause_count_at s + 2 ≤ length s
unfolding clause_count_at
shown_clauses sh = omega (arith, sh.front, sh.fits, sh.goals)
