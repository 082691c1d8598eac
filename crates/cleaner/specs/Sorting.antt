-- What the sorting asks and leaves: one hypothesis, all of them, and the whole group, from one listing and the second searches.
-- Assumes nothing.
use Rattle.std.specs.Prelude.{ℕ, ◌-◌, ◌≤◌, ◌≡◌, true, Option, Some, None, length, drop}
use mathlib.Core.List.{List, ◌++◌}
use Rattle.base.specs.paper.Lists.{filter}
use Rattle.base.specs.paper.Members.{has}
use Rattle.image.specs.paper.Book.{Book}
use Rattle.image.specs.paper.Faults.{limits}
use Rattle.image.specs.Accepted.{book_in}
use Rattle.sets.specs.paper.Kept.{zeros}
use Rattle.area.specs.paper.Work.{work_numbers}
use Rattle.searching.specs.paper.Seek.{sought}
use Rattle.engine.specs.paper.Verdict.{Verdict}
use Rattle.engine.specs.paper.Verdict.{by_second, decided}
use Rattle.cleaner.specs.declared.Sorted.{Sorted}
use Rattle.cleaner.specs.declared.listed.Listed.{Listed}
use Rattle.cleaner.specs.Told.{Tells}
use Rattle.cleaner.specs.paper.Cleaning.{Cleaning, numbers_from, ascending, unsorted, with_unexplained, with_needed, with_possible, with_ruled_out, Noted, sorted, number, noted, Ending, all_sorted, stopped, after, in_turn}
use Rattle.cleaner.specs.paper.Cleaning as paper

-- what is noted, as the code hands it on
abbrev pub sorting_of : Noted → Option Sorted
sorting_of (sorted s) = Some s
sorting_of (number n) = None

-- ---- the second search

-- the work area is as a search leaves it
pub record Wiped (area : List ℕ) : Type 0 where
  pub long : work_numbers ≤ length area
  pub cleared : area ≡ zeros work_numbers ++ drop work_numbers area

pub record Seconded (image : List ℕ) (h budget : ℕ) (s : Sorted) (area : List ℕ) (r : Option Sorted) (area' : List ℕ) : Type 0 where
  pub answer : (n : ℕ) → r ≡ sorting_of (noted h (by_second n (sought (book_in image) h budget)) s)
  pub work : area' ≡ area

-- ---- one hypothesis

-- the verdict on h by a list l of n nodes, and else by the second search
abbrev pub by_list : Book → ℕ → List ℕ → ℕ → ℕ → Verdict
by_list b budget l n h = decided h l n (sought b h budget)

pub record One (image : List ℕ) (h budget : ℕ) (listed : Listed) (s : Sorted) (area : List ℕ) (r : Option Sorted) (area' : List ℕ) : Type 0 where
  pub answer : (hypotheses : ℕ) (l : List ℕ) → Tells hypotheses listed l → has hypotheses h ≡ true → (n : ℕ)
      → r ≡ sorting_of (noted h (by_list (book_in image) budget l n h) s)
  pub work : area' ≡ area

-- ---- all of them

-- how the verdicts end, as the code hands it on
abbrev pub sorting_at : Ending → Option Sorted
sorting_at (paper.turned n) = None
sorting_at (all_sorted last s) = Some s
sorting_at (stopped last n) = None

-- the verdicts by a list
abbrev pub by_listing : Book → ℕ → ℕ → List ℕ → ℕ → Ending
by_listing b hypotheses budget l n = in_turn (by_list b budget l n) 0 (ascending hypotheses) unsorted

pub record All (image : List ℕ) (hypotheses budget : ℕ) (listed : Listed) (area : List ℕ) (r : Option Sorted) (area' : List ℕ) : Type 0 where
  pub answer : (l : List ℕ) → Tells hypotheses listed l → (n : ℕ) → r ≡ sorting_at (by_listing (book_in image) hypotheses budget l n)
  pub work : area' ≡ area

-- ---- the next one

module _ (image : List ℕ) (hypotheses budget : ℕ) (listed : Listed) where
  abbrev pub to_come : ℕ → List ℕ
  to_come h = filter (has hypotheses) (numbers_from h (limits.abducibles - h))

  -- with s sorted, those from h on are still to come
  pub record Coming (h : ℕ) (s : Sorted) : Type 0 where
    pub coming : (l : List ℕ) → Tells hypotheses listed l → (n : ℕ)
        → (last : ℕ) × (by_listing (book_in image) hypotheses budget l n ≡ in_turn (by_list (book_in image) budget l n) last (to_come h) s)

-- ---- the answer by a listing

-- what is left of a list: it stays after all verdicts, and is all 0 after a refusal
abbrev pub left_by : Ending → List ℕ → List ℕ
left_by (paper.turned n) list = zeros (length list)
left_by (all_sorted last s) list = list
left_by (stopped last n) list = zeros (length list)

pub record Concluded (image : List ℕ) (hypotheses budget : ℕ) (listed : Listed) (list area : List ℕ) (r : Cleaning) (list' area' : List ℕ) : Type 0 where
  pub answer : (l : List ℕ) → Tells hypotheses listed l → (n : ℕ) → r ≡ paper.answer_of hypotheses (by_listing (book_in image) hypotheses budget l n)
  pub sets : (l : List ℕ) → Tells hypotheses listed l → (n : ℕ) → list' ≡ left_by (by_listing (book_in image) hypotheses budget l n) list
  pub work : area' ≡ area
