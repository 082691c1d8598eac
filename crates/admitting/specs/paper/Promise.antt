-- What `admits` promises, after paper 02, A3.7: "It answers *admitted* or *excluded* with its nodes, or 1 to 9, 21, 22, 23, 30. Admitted exactly if
-- some explaining set has h."
-- Assumes nothing.
use Rattle.std.specs.Prelude.{ℕ, ◌≡◌, true, List, ◌++◌, ltb, length, drop, Result as Returned, Ok, Err}
use Rattle.base.specs.paper.Bools.{choose}
use Rattle.base.specs.paper.Members.{has}
use Rattle.image.specs.paper.Book.{Book}
use Rattle.image.specs.paper.Decode.{Decoded, accepted, refused, decode}
use Rattle.image.specs.paper.Refusals.{number_of}
use Rattle.meaning.specs.paper.Meaning.{explains}
use Rattle.sets.specs.paper.Kept.{zeros}
use Rattle.searching.specs.paper.Seek.{Seeking, admitted, excluded, spent, sought}
use Rattle.area.specs.paper.Work.{work_numbers}
use Rattle.lister.specs.paper.Promise.{most_budget}
use Rattle.lister.specs.declared.NoAnswer.{NoAnswer}
use Rattle.lister.specs.declared.NoAnswer.TheVariants as none
use Rattle.admitting.specs.declared.Admission.{Admission as Found}
use Rattle.admitting.specs.declared.Admission.TheVariants as found

-- how the call ends: with the image's own refusal and its place, turned away with a number, or as the second search does
pub data Result : Type 0 where
  broken : (number place : ℕ) → Result
  turned : ℕ → Result
  searched : Seeking → Result

-- 21, 22 and 23, as of `verdict_on`, in this order and behind the book's own refusals
abbrev pub by_book : Decoded → ℕ → ℕ → ℕ → Result
by_book (refused n at) h budget space = broken n at
by_book (accepted b) h budget space =
    choose (ltb space work_numbers) (turned 21)
    (choose (ltb most_budget budget) (turned 22)
    (choose (ltb h b.abducibles) (searched (sought b h budget)) (turned 23)))

unfoldable pub result_of : List ℕ → ℕ → ℕ → ℕ → Result
result_of image h budget space = by_book (decode image) h budget space

pub data Admission : Type 0 where
  Admitted : (nodes : ℕ) → Admission
  Excluded : (nodes : ℕ) → Admission
  Broken : (number place : ℕ) → Admission
  Refused : (number nodes : ℕ) → Admission

-- what `admits` returns, as an admission
abbrev pub admission : Returned Found NoAnswer → Admission
admission (Ok (found.Admitted n)) = Admitted n
admission (Ok (found.Excluded n)) = Excluded n
admission (Err (none.Broken fault)) = Broken (number_of fault.refusal) fault.place
admission (Err (none.Refused refusal n)) = Refused (number_of refusal) n

abbrev pub answer_of : Result → Admission
answer_of (broken n at) = Broken n at
answer_of (turned n) = Refused n 0
answer_of (searched (admitted n)) = Admitted n
answer_of (searched (excluded n)) = Excluded n
answer_of (searched (spent n)) = Refused 30 n

-- a search leaves the first 16,384 numbers 0 and those behind them as they were, and a refusal before it leaves all
abbrev pub work_of : Result → List ℕ → List ℕ
work_of (broken n at) old = old
work_of (turned n) old = old
work_of (searched o) old = zeros work_numbers ++ drop work_numbers old

-- ---- in words of sets

-- some explaining set, of any size, has h
abbrev pub InSome : Book → ℕ → Type 0
InSome b h = (d : ℕ) × (explains b d ≡ true) × (has d h ≡ true)

-- what each answer says of the book; a refusal says nothing
abbrev pub Says : Book → ℕ → Admission → Type 0
Says b h (Admitted n) = InSome b h
Says b h (Excluded n) = InSome b h → ⊥
Says b h (Broken n at) = Unit {0}
Says b h (Refused m n) = Unit {0}

pub record Admits (image : List ℕ) (h budget : ℕ) (area : List ℕ) (r : Admission) (area' : List ℕ) : Type 0 where
  pub answer : r ≡ answer_of (result_of image h budget (length area))
  pub work : area' ≡ work_of (result_of image h budget (length area)) area
  -- and it is right of the image's book
  pub meaning : (b : Book) → decode image ≡ accepted b → Says b h r
