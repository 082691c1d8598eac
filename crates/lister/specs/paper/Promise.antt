-- The lister's promise: its answer, every entry of the list and every number of the work area, on all inputs; and that what it lists is
-- right by the meaning. Words in quotation marks are those of paper 01, 8.
-- Assumes nothing.
use Rattle.std.specs.Prelude.{ℕ, ◌-◌, ◌≡◌, List, ◌++◌, ltb, length, take, drop, Result as Returned, Ok, Err}
use Rattle.base.specs.paper.Bools.{choose}
use Rattle.image.specs.paper.Book.{Book}
use Rattle.image.specs.paper.Decode.{Decoded, accepted, refused, decode}
use Rattle.image.specs.paper.Refusals.{number_of}
use Rattle.sets.specs.paper.Kept.{zeros, longest}
use Rattle.searching.specs.paper.Rules.{root, Outcome, finished, used_up, no_room, search_end}
use Rattle.searching.specs.paper.Tree.{size}
use Rattle.searching.specs.paper.Explanations.{Explanations}
use Rattle.lister.specs.declared.Listed.{Listed as Found}
use Rattle.lister.specs.declared.NoAnswer.{NoAnswer}
use Rattle.lister.specs.declared.NoAnswer.TheVariants as none
use Rattle.area.specs.paper.Work.{work_numbers}

-- the largest budget
abbrev pub most_budget : ℕ
most_budget = 1000000

-- how a listing ends: with the image's own refusal and its place, turned away with a number, or with a search's outcome
pub data Result : Type 0 where
  broken : (number place : ℕ) → Result
  turned : ℕ → Result
  searched : Outcome → Result

-- 20, "a list has more than 1,024 entries"; 21, "the work area has fewer than 16,384 numbers of 32 bits"; 22, "the budget is more than
-- 1,000,000"; in this order and behind the book's own refusals
abbrev pub by_book : Decoded → ℕ → ℕ → ℕ → Result
by_book (refused n at) room space budget = broken n at
by_book (accepted b) room space budget =
    choose (ltb longest room) (turned 20)
    (choose (ltb space work_numbers) (turned 21)
    (choose (ltb most_budget budget) (turned 22)
    (searched (search_end b room budget))))

unfoldable pub result_of : List ℕ → ℕ → ℕ → ℕ → Result
result_of image budget room space = by_book (decode image) room space budget

pub data Listing : Type 0 where
  Listed : (count nodes : ℕ) → Listing
  Broken : (number place : ℕ) → Listing
  Refused : (number nodes : ℕ) → Listing

-- what `list` returns, as a listing
abbrev pub listing : Returned Found NoAnswer → Listing
listing (Ok l) = Listed l.count l.nodes
listing (Err (none.Broken fault)) = Broken (number_of fault.refusal) fault.place
listing (Err (none.Refused refusal n)) = Refused (number_of refusal) n

-- the answer: the number of sets, then the nodes; or a refusal's number, then the place of an image's own, or the nodes
abbrev pub answer_of : Result → Listing
answer_of (broken n at) = Broken n at
answer_of (turned n) = Refused n 0
answer_of (searched (finished l n)) = Listed (length l) n
answer_of (searched (used_up n)) = Refused 30 n
answer_of (searched (no_room n)) = Refused 31 n

-- "A refusal from 1 to 23 writes nothing." "After 30 and 31 each list entry is 0." A search that is finished "puts the sets into the
-- first K entries and makes each later entry 0."
abbrev pub sets_of : Result → List ℕ → List ℕ
sets_of (broken n at) old = old
sets_of (turned n) old = old
sets_of (searched (finished l n)) old = l ++ zeros (length old - length l)
sets_of (searched (used_up n)) old = zeros (length old)
sets_of (searched (no_room n)) old = zeros (length old)

-- "Every search, however it ends, makes the first 16,384 numbers of the work area 0 and leaves those behind them as they were."
abbrev pub work_of : Result → List ℕ → List ℕ
work_of (broken n at) old = old
work_of (turned n) old = old
work_of (searched o) old = zeros work_numbers ++ drop work_numbers old

-- the first k entries are exactly the smallest explaining sets of the image's book, in order, and n is the size of the search tree
pub record Explained (image : List ℕ) (k n : ℕ) (sets : List ℕ) : Type 0 where
  pub b : Book
  pub book : decode image ≡ accepted b
  pub entries : Explanations b (take k sets)
  pub nodes : n ≡ size b (root b)

pub record Lists (image : List ℕ) (budget : ℕ) (list area : List ℕ) (r : Listing) (list' area' : List ℕ) : Type 0 where
  pub answer : r ≡ answer_of (result_of image budget (length list) (length area))
  pub sets : list' ≡ sets_of (result_of image budget (length list) (length area)) list
  pub work : area' ≡ work_of (result_of image budget (length list) (length area)) area
  -- if it answers that k sets are listed, these are exactly the smallest explaining sets, and n is the size of the search tree
  pub explanations : (k n : ℕ) → r ≡ Listed k n → Explained image k n list'
