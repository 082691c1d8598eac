-- The group's image looked at: the answer by one listing is the one that the verdicts give, and what it leaves is what the last verdict would.
-- Assumes nothing.
use Rattle.std.specs.Prelude.{ℕ, ◌^◌, ◌≤◌, ◌<◌, ◌≡◌, length}
use mathlib.Core.List.{List}
use Rattle.image.specs.Accepted.{IsBook, book_in}
use Rattle.sets.specs.paper.Kept.{longest}
use Rattle.area.specs.paper.Work.{work_numbers}
use Rattle.lister.specs.paper.Promise.{most_budget}
use Rattle.cleaner.specs.paper.Cleaning.{Cleaning, ascending, unsorted, number, noted, Ending, turned, all_sorted, stopped, after, in_turn, verdict_on, list_of, area_of, Means}
use Rattle.cleaner.specs.paper.Cleaning as paper

-- the searches may begin on the image, and some hypothesis is named
pub record Ripe (image : List ℕ) (hypotheses budget : ℕ) (list area : List ℕ) : Type 0 where
  pub book : IsBook image
  pub some : 0 < hypotheses
  pub named : hypotheses < 2 ^ (book_in image).abducibles
  pub few : length list ≤ longest
  pub long : work_numbers ≤ length area
  pub low : budget ≤ most_budget

-- how the verdicts on the image end
abbrev pub ending_on : List ℕ → ℕ → ℕ → List ℕ → List ℕ → Ending
ending_on image hypotheses budget list area = in_turn (verdict_on image budget (length list) (length area)) 0 (ascending hypotheses) unsorted

pub record Looked (image : List ℕ) (hypotheses budget : ℕ) (list area : List ℕ) (r : Cleaning) (list' area' : List ℕ) : Type 0 where
  pub answer : r ≡ paper.answer_of hypotheses (ending_on image hypotheses budget list area)
  pub sets : list' ≡ list_of image budget list area (ending_on image hypotheses budget list area)
  pub work : area' ≡ area_of image budget list area (ending_on image hypotheses budget list area)
