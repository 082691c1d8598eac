-- The clauses before the first whose head depends on itself, and how many bytes their records have.
-- Assumes nothing.
use Rattle.std.specs.Prelude.{ℕ, ◌+◌, ◌*◌, ◌≤◌, ◌≡◌, refl, Bool, true, false, ◌||◌, eqb}
use Rattle.std.proofs.Common.{sym, ap₂, ◌∙◌, ⊎_elim, eqb-true, length-append}
use Rattle.std.proofs.Math.Path.{ap}
use mathlib.Core.List.{List, [], ◌∷◌, ◌++◌}
use native.Mathlib.Omega.{arith}
use Rattle.std.proofs.Math.ListN.{length}
use Rattle.base.specs.paper.Bools.{choose}
use Rattle.base.specs.Bools.{decide, choose_true, choose_false, either}
use Rattle.base.specs.paper.Lists.{flat}
use Rattle.image.specs.paper.Book.{Clause, Book}
use Rattle.image.specs.paper.Loops.{reached, on_loop, before_loop}
use Rattle.image.specs.paper.Decode.{record_place, loop_place}
use Rattle.image.specs.Finds.{length_lits}
use Rattle.image.specs.Spell.{of_alternative, of_clause, Stands}
use Rattle.image.specs.StandsLaws.{stands_within}
use Rattle.image.specs.Shown.{clause_count_at, Shown, shown_clauses}

-- the test of one atom
abbrev pub depends_on_itself : List Clause → ℕ → ℕ → Bool
depends_on_itself cs atoms p = reached cs atoms p p

-- the clauses before the first whose head passes a test
unfoldable pub before : (ℕ → Bool) → List Clause → List Clause
before t [] = []
before t (c ∷ cs) = choose (t c.head) [] (c ∷ before t cs)

-- how many bytes the records of clauses have
abbrev pub bytes : List Clause → ℕ
bytes cs = 2 * length (flat of_clause cs)

-- ---- one clause at a time

pub bytes_first : (c : Clause) (cs : List Clause) → bytes (c ∷ cs) ≡ 2 * length (of_clause c) + bytes cs
bytes_first c cs = omega (arith, length-append (of_clause c) (flat of_clause cs))

module _ (t : ℕ → Bool) where
  pub before_over : (cs : List Clause) → cs ≡ [] → 0 ≡ bytes (before t cs)
  unfolding before
  before_over cs e = ap (λ (l : List Clause). bytes (before t l)) (sym e)

  module _ (c : Clause) (cs : List Clause) where
    -- the head passes: the place is found
    pub before_found : t c.head ≡ true → 0 ≡ bytes (before t (c ∷ cs))
    unfolding before
    before_found h = ap bytes (sym (choose_true [] (c ∷ before t cs) h))

    -- it does not: the place is further on
    pub before_pass : t c.head ≡ false → bytes (before t (c ∷ cs)) ≡ 2 * length (of_clause c) + bytes (before t cs)
    unfolding before
    before_pass h =
        let all : bytes (before t (c ∷ cs)) ≡ 2 * length (of_clause c ++ flat of_clause (before t cs)) =
        ap bytes (choose_false [] (c ∷ before t cs) h) in
        omega (arith, length-append (of_clause c) (flat of_clause (before t cs)))

  -- they are no more than all have
  pub before_within : (cs : List Clause) → bytes (before t cs) ≤ bytes cs
  unfolding before
  before_within [] = omega arith
  before_within (c ∷ cs) =
      let more : bytes (before t cs) ≤ bytes cs = before_within cs in
      let all : bytes (c ∷ cs) ≡ 2 * length (of_clause c) + bytes cs = bytes_first c cs in
      ⊎_elim (λ h. omega (arith, before_found c cs h)) (λ h. omega (arith, before_pass c cs h)) (decide (t c.head))

-- an atom more that fails the test, among those that do
pub free_more : (t f g : ℕ → Bool) (a : ℕ) → ((q : ℕ) → g q ≡ (eqb a q || f q)) → t a ≡ false → ((q : ℕ) → f q ≡ true → t q ≡ false)
    → (q : ℕ) → g q ≡ true → t q ≡ false
free_more t f g a e h free q m =
    ⊎_elim (λ (k : eqb a q ≡ true). ap t (sym (eqb-true a q k)) ∙ h) (λ (k : f q ≡ true). free q k) (either (eqb a q) (f q) (sym (e q) ∙ m))

-- ---- a book's clauses

before_loop_lem : (b : Book) (cs : List Clause) → before (on_loop b) cs ≡ before_loop b cs
unfolding before before_loop
before_loop_lem b [] = refl
before_loop_lem b (c ∷ cs) = ap (λ (ds : List Clause). choose (on_loop b c.head) [] (c ∷ ds)) (before_loop_lem b cs)

-- the clauses stand within the image
pub bytes_fit : (s : List ℕ) (b : Book) → Shown s b → (cs : List Clause) → cs ≡ b.clauses → clause_count_at s + 2 + bytes cs ≤ length s
bytes_fit s b sh cs e =
    let all : clause_count_at s + 2 + bytes b.clauses ≤ length s = go (flat of_clause b.clauses) sh.all_clauses in
    omega (arith, ap bytes e)
  where
    go : (xs : List ℕ) → Stands s (clause_count_at s + 2) xs → clause_count_at s + 2 + 2 * length xs ≤ length s
    go [] st = omega (arith, shown_clauses sh)
    go (x ∷ xs) st = stands_within x xs st

-- the place of refusal 9 is behind the clauses before the loop
pub loop_place_lem : (s : List ℕ) (b : Book) → Shown s b → (atoms : ℕ) (cs : List Clause) → atoms ≡ b.atoms → cs ≡ b.clauses
    → clause_count_at s + 2 + bytes (before (depends_on_itself cs atoms) cs) ≡ loop_place b
unfolding on_loop loop_place record_place clause_count_at
loop_place_lem s b sh atoms cs is-atoms is-clauses =
    ap₂ (λ (n : ℕ) (ds : List Clause). clause_count_at s + 2 + bytes (before (depends_on_itself ds n) ds)) is-atoms is-clauses
    ∙ ap (λ (ds : List Clause). clause_count_at s + 2 + bytes ds) (before_loop_lem b b.clauses)
    ∙ records (before_loop b b.clauses)
  where
    records : (ds : List Clause) → clause_count_at s + 2 + bytes ds ≡ record_place b ds
    records ds = omega (arith, sh.goals, length_lits b.goal, length-append (of_alternative b.goal) (length b.clauses ∷ flat of_clause ds))
