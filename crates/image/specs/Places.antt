-- Where in an accepted image its records lie: code that skips from one to the next stays within the image.
-- Assumes nothing.
use Rattle.std.specs.Prelude.{ℕ, suc, ◌+◌, ◌*◌, ◌≤◌, ◌<◌, ◌≡◌, List, ◌∷◌, length, get_or}
use Rattle.std.proofs.Common.{sym, ap, ◌∙◌, arith, add-one}
use Rattle.image.specs.Shown.{goal_at, Shown, shown, skip, clause_count_at, clause_place, no_clause, shown_clauses}
use Rattle.image.specs.paper.Walk.{field_at}
use Rattle.image.specs.Spell.{Stands, of_lits, of_record}
use Rattle.image.specs.StandsLaws.{stands_at, stands_value, stands_within}
use Rattle.image.specs.Accepted.{book_in, IsBook}

pub shows : (s : List ℕ) → IsBook s → Shown s (book_in s)
shows s e = shown s (book_in s) e

pub clauses_fit : (s : List ℕ) → IsBook s → clause_count_at s + 2 ≤ length s
clauses_fit s e = shown_clauses (shows s e)

-- the clause count stands behind the goal
pub goal_before : (s : List ℕ) → goal_at ≤ clause_count_at s
unfolding clause_count_at
goal_before s = omega arith

-- a record lies within the image
pub record_within : (s : List ℕ) (at : ℕ) (xs : List ℕ) → Stands s at (of_record xs) → at + 2 + field_at s at ≤ length s
record_within s at xs h =
    let size : field_at s at ≡ 2 * length xs = stands_value h in
    let all : at + 2 * suc (length xs) ≤ length s = stands_within (2 * length xs) xs h in
    omega arith

-- the record of the clause numbered i
pub clause_within : (s : List ℕ) → IsBook s → (count place i : ℕ) → count ≡ field_at s (clause_count_at s) → place ≡ clause_place s i → i < count
    → place + 2 + field_at s place ≤ length s
clause_within s e count place i n here h =
    let sh = shows s e in
    let c = get_or (book_in s).clauses i no_clause in
    let there : i < length (book_in s).clauses = omega (arith, sh.clauses, n) in
    record_within s place (c.head ∷ of_lits c.body) (stands_at (sym here) (sh.clause i there))

-- the place behind a record that is skipped
pub place_next : (s : List ℕ) (first place i size : ℕ) → place ≡ skip s first i → size ≡ field_at s place → place + 2 + size ≡ skip s first (i + 1)
unfolding skip
place_next s first place i size here e =
    ap (λ (n : ℕ). place + 2 + n) e ∙ ap (λ (k : ℕ). k + 2 + field_at s k) here ∙ ap (skip s first) (sym (add-one i))
