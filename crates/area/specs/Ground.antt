-- The book as tables in the work area, and the marks of a sheet beside them.
-- Assumes nothing.
use Rattle.std.specs.Prelude.{ℕ, ◌+◌, ◌*◌, ◌≤◌, ◌<◌, ◌≡◌, Bool, true, false, ◌⊎◌, List, [], ◌∷◌, map, length, get_or, drop}
use Rattle.base.specs.paper.Lists.{Every}
use Rattle.image.specs.paper.Book.{Lit, Clause, Constraint, Book}
use Rattle.image.specs.paper.Decode.{lit_of, decode, accepted}
use Rattle.image.specs.Shown.{lits_at}
use Rattle.image.specs.paper.Faults.{limits}
use Rattle.meaning.specs.paper.Meaning.{clauses_for}
use Rattle.searching.specs.paper.Rules.{Task, pick, break, keep, on}
use Rattle.area.specs.Area.{literal_numbers, no_list, places, joins, joins_set, no_mark, no_task, no_link, no_end, literals, clause_records, cells, ways, trail, wanted_true, wanted_false, constraint_record, cell_from, Long}

-- ---- the tables, which the search does not write: they lie from `literals` to `trail`

-- wanting atom p does this, and wanting its opposite that
abbrev pub Wanting : (ℕ → ℕ) → ℕ → ℕ → ℕ → Type 0
Wanting tab p this that = (tab (wanted_true p) ≡ this) × (tab (wanted_false p) ≡ that)

-- the cell of the constraints from k on: the record of k, and then the cell of k + 1
abbrev pub CellLaid : (ℕ → ℕ) → ℕ → Type 0
CellLaid tab k = (tab (cell_from k) ≡ constraint_record k) × (tab (cell_from k + 1) ≡ no_end) × (tab (cell_from k + 2) ≡ cell_from (k + 1))

module _ (image : List ℕ) (tab : ℕ → ℕ) where
  -- a list of literals as one number: one literal, none, or a part of the image
  pub data Listed : ℕ → List Lit → Type 0 where
    single : {x : ℕ} → x < literal_numbers → Listed x (lit_of x ∷ [])
    none : Listed no_list []
    part : {from n : ℕ} → from < places → 2 ≤ n → from + 2 * n ≤ length image → Listed (from + places * n) (lits_at image from n)

  -- the ways from way w on, and the list of literals of each
  pub data Chain : ℕ → List (List Lit) → Type 0 where
    end : Chain no_link []
    way : {w : ℕ} {ls : List Lit} {lss : List (List Lit)} → ways ≤ w → w + 1 < trail → Listed (tab w) ls → Chain (tab (w + 1)) lss → Chain w (ls ∷ lss)

  -- the records from record e on, each a pick of its ways
  pub data Records : ℕ → List Task → Type 0 where
    end : Records no_link []
    record_at : {e : ℕ} {lss : List (List Lit)} {ts : List Task} → clause_records ≤ e → e + 1 < cells → Chain (tab e) lss
        → Every (λ (ls : List Lit). length ls ≤ 1) lss ⊎ (tab (e + 1) ≡ no_link) → Records (tab (e + 1)) ts → Records e (pick lss ∷ ts)

-- what wanting the opposite of a defined atom does: with no clause it joins, else the records of its clauses are to be broken
pub data Denied (image : List ℕ) (tab : ℕ → ℕ) : ℕ → List Task → Type 0 where
  undefined : Denied image tab joins []
  broken : {e : ℕ} {t : Task} {ts : List Task} → Records image tab e (t ∷ ts) → Denied image tab e (t ∷ ts)

pub record Ground (image : List ℕ) (b : Book) (tab : ℕ → ℕ) : Type 0 where
  pub book : decode image ≡ accepted b
  -- an abducible joins the set, and its opposite joins
  pub assumable : (p : ℕ) → p < b.abducibles → Wanting tab p joins_set joins
  -- a defined atom is reached through its clauses, and denied by breaking them
  pub reached : (p : ℕ) → b.abducibles ≤ p → p < b.atoms → Chain image tab (tab (wanted_true p)) (map (λ (c : Clause). c.body) (clauses_for b p))
  pub denied : (p : ℕ) → b.abducibles ≤ p → p < b.atoms → Denied image tab (tab (wanted_false p)) (map break (clauses_for b p))
  -- the record of each constraint, the end behind them, and the cells of the constraints from each on
  pub constraint : (k : ℕ) (c : Constraint) (cs : List Constraint) → drop k b.constraints ≡ c ∷ cs → Records image tab (constraint_record k) (keep c ∷ [])
  pub last : tab (constraint_record (length b.constraints)) ≡ no_task
  pub cell : (k : ℕ) → k ≤ length b.constraints → CellLaid tab k

-- ---- the work area

-- the mark of atom p, by whether it is wanted true and whether it is wanted false; for both, a number that is no mark
abbrev pub mark_of : ℕ → Bool → Bool → ℕ
mark_of p true true = 2 * p + 3
mark_of p true false = 2 * p + 1
mark_of p false true = 2 * p + 2
mark_of p false false = no_mark

abbrev pub pos : ℕ → Lit
pos p = record { atom = p; sign = true }

abbrev pub neg : ℕ → Lit
neg p = record { atom = p; sign = false }

-- the work area has these tables, and the marks of this sheet
pub record Tabled (tab : ℕ → ℕ) (work : List ℕ) (sheet : List Lit) : Type 0 where
  pub long : Long work
  pub tabled : (j : ℕ) → literals ≤ j → j < trail → get_or work j 0 ≡ tab j
  pub marked : (p : ℕ) → p < limits.atoms → get_or work p 0 ≡ mark_of p (on sheet (pos p)) (on sheet (neg p))
