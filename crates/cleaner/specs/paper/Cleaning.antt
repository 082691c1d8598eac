-- What `clean` promises, after paper 02, A4: its answer to a group, and what it leaves in list and work area, on all inputs; and what the
-- answer says of all explaining sets. Words in quotation marks are A4's.
-- Assumes nothing.
use Rattle.std.specs.Prelude.{ℕ, zero, suc, ◌+◌, ◌^◌, ◌≡◌, true, ◌||◌, Result as Returned, Ok, Err, List, [], ◌∷◌, leb, ltb, eqb, length}
use Rattle.std.specs.Int.Bits.{bit_or}
use Rattle.base.specs.paper.Bools.{choose}
use Rattle.base.specs.paper.Lists.{all, filter}
use Rattle.base.specs.paper.Members.{has}
use Rattle.image.specs.paper.Book.{Book}
use Rattle.image.specs.paper.Faults.{limits}
use Rattle.image.specs.paper.Walk.{Finding, fine, wrong, unless}
use Rattle.image.specs.paper.Refusals.{number_of}
use Rattle.image.specs.declared.refusals.Refusal.{Refusal}
use Rattle.image.specs.paper.Decode.{Decoded, accepted, refused, decode}
use Rattle.sets.specs.paper.Kept.{longest}
use Rattle.area.specs.paper.Work.{work_numbers}
use Rattle.lister.specs.paper.Promise.{most_budget, Result, work_of}
use Rattle.admitting.specs.paper.Promise.{InSome}
use Rattle.engine.specs.paper.Verdict as verdict
use Rattle.engine.specs.paper.Verdict.{Verdict, Unexplained, Needed, Possible, RuledOut, Broken, verdict_result, second, verdict_of, verdict_sets, Explainable, Says}
use Rattle.groups.specs.paper.Group.{well_formed, observed, is_defined, with_facts, group_image}
use Rattle.cleaner.specs.declared.Sorted.{Sorted}
use Rattle.cleaner.specs.declared.Cleaning.{Cleaning as Found}
use Rattle.cleaner.specs.declared.Cleaning.TheVariants as found

-- ---- the refusals before any verdict

-- "The refusals in their order: the book's; 40; 41; 42; 5, if clauses and facts together are more than 512; 20, 21, 22, 23." "23 is tested
-- once for the whole set, before anything is searched."
unfoldable pub refusal : Book → List ℕ → ℕ → ℕ → ℕ → ℕ → Finding
refusal b group hypotheses budget room space =
    unless (ltb 0 hypotheses) 40
    (unless (well_formed group) 41
    (unless (all (is_defined b) (observed group)) 42
    (unless (leb (length b.clauses + length (observed group)) limits.clauses) 5
    (unless (leb room longest) 20
    (unless (leb work_numbers space) 21
    (unless (leb budget most_budget) 22
    (unless (ltb hypotheses (2 ^ b.abducibles)) 23 fine)))))))

-- ---- the verdicts

-- n numbers, from this one up
unfoldable pub numbers_from : ℕ → ℕ → List ℕ
numbers_from at zero = []
numbers_from at (suc n) = at ∷ numbers_from (suc at) n

-- "The hypotheses are taken from the lowest up"
unfoldable pub ascending : ℕ → List ℕ
ascending hypotheses = filter (has hypotheses) (numbers_from 0 limits.abducibles)

-- no hypothesis has a verdict yet
abbrev pub unsorted : Sorted
unsorted = record { unexplained = 0; needed = 0; possible = 0; excluded = 0 }

-- a set and one member more
abbrev pub with : ℕ → ℕ → ℕ
with h set = bit_or (2 ^ h) set

abbrev pub with_unexplained : ℕ → Sorted → Sorted
with_unexplained h s = record { unexplained = with h s.unexplained; needed = s.needed; possible = s.possible; excluded = s.excluded }

abbrev pub with_needed : ℕ → Sorted → Sorted
with_needed h s = record { unexplained = s.unexplained; needed = with h s.needed; possible = s.possible; excluded = s.excluded }

abbrev pub with_possible : ℕ → Sorted → Sorted
with_possible h s = record { unexplained = s.unexplained; needed = s.needed; possible = with h s.possible; excluded = s.excluded }

abbrev pub with_ruled_out : ℕ → Sorted → Sorted
with_ruled_out h s = record { unexplained = s.unexplained; needed = s.needed; possible = s.possible; excluded = with h s.excluded }

-- what a verdict on h adds: h to those that have it; or a refusal's number
pub data Noted : Type 0 where
  sorted : Sorted → Noted
  number : ℕ → Noted

abbrev pub noted : ℕ → Verdict → Sorted → Noted
noted h (Unexplained n) s = sorted (with_unexplained h s)
noted h (Needed n) s = sorted (with_needed h s)
noted h (Possible n) s = sorted (with_possible h s)
noted h (RuledOut n) s = sorted (with_ruled_out h s)
noted h (Broken n at) s = number n
noted h (verdict.Refused n m) s = number n

-- How a group ends: turned away before any verdict; with all verdicts, and the last one's hypothesis; or at the hypothesis whose verdict was
-- refused.
pub data Ending : Type 0 where
  turned : (number : ℕ) → Ending
  all_sorted : (last : ℕ) → Sorted → Ending
  stopped : (last number : ℕ) → Ending

abbrev pub after : Noted → (Sorted → Ending) → (ℕ → Ending) → Ending
after (sorted s) next stop = next s
after (number n) next stop = stop n

-- The verdicts on these hypotheses, behind the one on `last`. "All verdicts run even where one holds the group already"; "A refusal ends the
-- work on its group."
unfoldable pub in_turn : (ℕ → Verdict) → ℕ → List ℕ → Sorted → Ending
in_turn verdict last [] s = all_sorted last s
in_turn verdict last (h ∷ hs) s = after (noted h (verdict h) s) (in_turn verdict h hs) (stopped h)

-- the verdict on h; "each verdict may use the full budget"
abbrev pub verdict_on : List ℕ → ℕ → ℕ → ℕ → ℕ → Verdict
verdict_on image budget room space h = verdict_of h (verdict_result image h budget room space) (second image h budget)

-- ---- the answer, and what is left

abbrev pub ending_by : Finding → Book → List ℕ → ℕ → ℕ → ℕ → ℕ → Ending
ending_by (wrong n) b group hypotheses budget room space = turned n
ending_by fine b group hypotheses budget room space = in_turn (verdict_on (group_image b (observed group)) budget room space) 0 (ascending hypotheses) unsorted

abbrev pub ending_of : Decoded → List ℕ → ℕ → ℕ → ℕ → ℕ → Ending
ending_of (refused n at) group hypotheses budget room space = turned n
ending_of (accepted b) group hypotheses budget room space = ending_by (refusal b group hypotheses budget room space) b group hypotheses budget room space

unfoldable pub ending : List ℕ → List ℕ → ℕ → ℕ → ℕ → ℕ → Ending
ending book group hypotheses budget room space = ending_of (decode book) group hypotheses budget room space

pub data Cleaning : Type 0 where
  Deleted : Cleaning
  Held : Sorted → Cleaning
  Refused : (number : ℕ) → Cleaning

-- what `clean` returns, as its answer
abbrev pub cleaning : Returned Found Refusal → Cleaning
cleaning (Ok found.Deleted) = Deleted
cleaning (Ok (found.Held s)) = Held s
cleaning (Err refusal) = Refused (number_of refusal)

-- "Exactly where all of these are ruled out the group is deleted. Where one is not, it is held, and the answer has all verdicts. Where
-- anything is refused it is held too, and the answer has that number and no verdict."
abbrev pub answer_of : ℕ → Ending → Cleaning
answer_of hypotheses (turned n) = Refused n
answer_of hypotheses (all_sorted last s) = choose (eqb s.excluded hypotheses) Deleted (Held s)
answer_of hypotheses (stopped last n) = Refused n

-- the image that the verdicts are on; a refused book has none
abbrev pub image_of : Decoded → List ℕ → List ℕ
image_of (refused n at) group = []
image_of (accepted b) group = group_image b (observed group)

-- "What the last verdict left in list and work area stays there; without a verdict nothing is written." What a verdict leaves depends on the
-- lengths alone, so it matters not what the one before it left.
module _ (image : List ℕ) (budget : ℕ) (list area : List ℕ) where
  abbrev pub last_result : ℕ → Result
  last_result h = verdict_result image h budget (length list) (length area)

  abbrev pub list_of : Ending → List ℕ
  list_of (turned n) = list
  list_of (all_sorted last s) = verdict_sets last (last_result last) (second image last budget) list
  list_of (stopped last n) = verdict_sets last (last_result last) (second image last budget) list

  abbrev pub area_of : Ending → List ℕ
  area_of (turned n) = area
  area_of (all_sorted last s) = work_of (last_result last) area
  area_of (stopped last n) = work_of (last_result last) area

-- ---- in words of sets

-- what the four sets say of a hypothesis, in words of explaining sets of any size; and one of them has it
pub record Told (b : Book) (s : Sorted) (h : ℕ) : Type 0 where
  pub unexplained : has s.unexplained h ≡ true → Says b h (Unexplained 0)
  pub needed : has s.needed h ≡ true → Says b h (Needed 0)
  pub possible : has s.possible h ≡ true → Says b h (Possible 0)
  pub ruled_out : has s.excluded h ≡ true → Says b h (RuledOut 0)
  pub some : (has s.unexplained h || (has s.needed h || (has s.possible h || has s.excluded h))) ≡ true

-- What an answer says of the book with the group's facts. **A group is deleted only if some set explains what was observed and no explaining
-- set, of any size, has any of the hypotheses to keep safe.**
abbrev pub Means : Book → ℕ → Cleaning → Type 0
Means b hypotheses Deleted = Explainable b × ((h : ℕ) → has hypotheses h ≡ true → InSome b h → ⊥)
Means b hypotheses (Held s) = (h : ℕ) → has hypotheses h ≡ true → Told b s h
Means b hypotheses (Refused n) = Unit {0}

-- ---- the promise

pub record Cleans (book group : List ℕ) (hypotheses budget : ℕ) (list area : List ℕ) (r : Cleaning) (list' area' : List ℕ) : Type 0 where
  pub answer : r ≡ answer_of hypotheses (ending book group hypotheses budget (length list) (length area))
  pub sets : list' ≡ list_of (image_of (decode book) group) budget list area (ending book group hypotheses budget (length list) (length area))
  pub work : area' ≡ area_of (image_of (decode book) group) budget list area (ending book group hypotheses budget (length list) (length area))
  -- and it is right of the book with the group's facts
  pub meaning : (b : Book) → decode book ≡ accepted b → Means (with_facts b (observed group)) hypotheses r
