-- What `verdict_on` promises, after paper 01, 8.5 and paper 02, A3: it begins with a listing, whose refusal would be its own; where the list
-- does not settle it, there is a second search. And what each verdict means, in words of explaining sets of any size. Words in quotation marks are
-- A3's.
-- Assumes nothing.
use Rattle.std.specs.Prelude.{ℕ, ◌+◌, ◌≡◌, Bool, true, false, ◌⊎◌, List, [], ◌∷◌, ltb, length, Result as Returned, Ok, Err}
use Rattle.base.specs.paper.Bools.{choose}
use Rattle.base.specs.paper.Lists.{all, any}
use Rattle.base.specs.paper.Members.{has}
use Rattle.image.specs.paper.Book.{Book}
use Rattle.image.specs.paper.Decode.{Decoded, accepted, refused, decode}
use Rattle.image.specs.paper.Refusals.{number_of}
use Rattle.meaning.specs.paper.Meaning.{explains}
use Rattle.sets.specs.paper.Kept.{zeros}
use Rattle.searching.specs.paper.Rules.{root, finished, used_up, no_room}
use Rattle.searching.specs.paper.Tree.{size}
use Rattle.searching.specs.paper.Seek.{Seeking, admitted, excluded, spent, sought}
use Rattle.lister.specs.paper.Promise.{Result, broken, turned, searched, result_of, sets_of, work_of}
use Rattle.admitting.specs.paper.Promise.{InSome}
use Rattle.lister.specs.declared.NoAnswer.{NoAnswer}
use Rattle.lister.specs.declared.NoAnswer.TheVariants as none
use Rattle.engine.specs.declared.Verdict.{Verdict as Found}
use Rattle.engine.specs.declared.Verdict.TheVariants as found

pub data Verdict : Type 0 where
  Unexplained : (nodes : ℕ) → Verdict
  Needed : (nodes : ℕ) → Verdict
  Possible : (nodes : ℕ) → Verdict
  RuledOut : (nodes : ℕ) → Verdict
  Broken : (number place : ℕ) → Verdict
  Refused : (number nodes : ℕ) → Verdict

-- what `verdict_on` returns, as a verdict or a refusal
abbrev pub verdict : Returned Found NoAnswer → Verdict
verdict (Ok (found.Unexplained n)) = Unexplained n
verdict (Ok (found.Needed n)) = Needed n
verdict (Ok (found.Possible n)) = Possible n
verdict (Ok (found.RuledOut n)) = RuledOut n
verdict (Err (none.Broken fault)) = Broken (number_of fault.refusal) fault.place
verdict (Err (none.Refused refusal n)) = Refused (number_of refusal) n

-- the hypothesis is an abducible of the book
abbrev pub named : Decoded → ℕ → Bool
named (accepted b) h = ltb h b.abducibles
named (refused n at) h = true

-- 23, "a member of the judged set, or the hypothesis, is not below B" (paper 01): behind the lister's own refusals, and before any search
abbrev pub asked : Bool → Result → Result
asked t (broken n at) = broken n at
asked t (turned n) = turned n
asked true (searched o) = searched o
asked false (searched o) = turned 23

unfoldable pub verdict_result : List ℕ → ℕ → ℕ → ℕ → ℕ → Result
verdict_result image h budget room space = asked (named (decode image) h) (result_of image budget room space)

-- "A second search, with a budget of its own of the same number"; a refused image has none
abbrev pub second_of : Decoded → ℕ → ℕ → Seeking
second_of (accepted b) h budget = sought b h budget
second_of (refused n at) h budget = excluded 0

unfoldable pub second : List ℕ → ℕ → ℕ → Seeking
second image h budget = second_of (decode image) h budget

-- the list does not settle it: there is a set, and none has h
abbrev pub unsettled : ℕ → List ℕ → Bool
unsettled h [] = false
unsettled h (s ∷ l) = choose (any (λ (d : ℕ). has d h) (s ∷ l)) false true

-- "*Possible* if it has a success, *ruled out* if it has none"; "the nodes of the two searches are added up"
abbrev pub by_second : ℕ → Seeking → Verdict
by_second n (admitted m) = Possible (n + m)
by_second n (excluded m) = RuledOut (n + m)
by_second n (spent m) = Refused 30 (n + m)

-- "The list settles it where it is empty (unexplained), where all its sets have h (needed), or where some has (possible). Else the second
-- search decides."
abbrev pub decided : ℕ → List ℕ → ℕ → Seeking → Verdict
decided h [] n later = Unexplained n
decided h (s ∷ l) n later =
    choose (all (λ (d : ℕ). has d h) (s ∷ l)) (Needed n) (choose (any (λ (d : ℕ). has d h) (s ∷ l)) (Possible n) (by_second n later))

-- the answer: a refusal's number with its place or its nodes, or the verdict
abbrev pub verdict_of : ℕ → Result → Seeking → Verdict
verdict_of h (broken n at) later = Broken n at
verdict_of h (turned n) later = Refused n 0
verdict_of h (searched (finished l n)) later = decided h l n later
verdict_of h (searched (used_up n)) later = Refused 30 n
verdict_of h (searched (no_room n)) later = Refused 31 n

-- "After the second search the list keeps the first listing, after its 30 it is all 0."
abbrev pub kept : Bool → Seeking → List ℕ → List ℕ → List ℕ
kept true (spent m) listed old = zeros (length old)
kept true (admitted m) listed old = listed
kept true (excluded m) listed old = listed
kept false later listed old = listed

abbrev pub verdict_sets : ℕ → Result → Seeking → List ℕ → List ℕ
verdict_sets h (searched (finished l n)) later old = kept (unsettled h l) later (sets_of (searched (finished l n)) old) old
verdict_sets h (searched (used_up n)) later old = sets_of (searched (used_up n)) old
verdict_sets h (searched (no_room n)) later old = sets_of (searched (no_room n)) old
verdict_sets h (broken n at) later old = old
verdict_sets h (turned n) later old = old

-- ---- in words of sets

-- h is in every explaining set
abbrev pub InEvery : Book → ℕ → Type 0
InEvery b h = (d : ℕ) → explains b d ≡ true → has d h ≡ true

-- some set explains
abbrev pub Explainable : Book → Type 0
Explainable b = (d : ℕ) × (explains b d ≡ true)

-- What each verdict on h says of the book; a refusal is none. "Where there is none the verdict is *unexplained* [...] Where there are some it is *needed* if h
-- is in all of them, *ruled out* if in none, and *possible* else."
abbrev pub Says : Book → ℕ → Verdict → Type 0
Says b h (Unexplained n) = Explainable b → ⊥
Says b h (Needed n) = Explainable b × InEvery b h
Says b h (Possible n) = InSome b h × (InEvery b h → ⊥)
Says b h (RuledOut n) = Explainable b × (InSome b h → ⊥)
Says b h (Broken m at) = ⊥
Says b h (Refused m n) = ⊥

-- the nodes that an answer tells
abbrev pub nodes_of : Verdict → ℕ
nodes_of (Unexplained n) = n
nodes_of (Needed n) = n
nodes_of (Possible n) = n
nodes_of (RuledOut n) = n
nodes_of (Broken m at) = 0
nodes_of (Refused m n) = n

-- the nodes of the second search
abbrev pub visited : Seeking → ℕ
visited (admitted n) = n
visited (excluded n) = n
visited (spent n) = n

-- The verdict is right of the image's book, and its nodes are the size of the search tree, or that and the nodes of the second search.
pub record Meant (image : List ℕ) (h budget : ℕ) (r : Verdict) : Type 0 where
  pub b : Book
  pub book : decode image ≡ accepted b
  pub says : Says b h r
  pub nodes : (nodes_of r ≡ size b (root b)) ⊎ (nodes_of r ≡ size b (root b) + visited (sought b h budget))

-- the answer is a refusal
abbrev pub Refusal : Verdict → Type 0
Refusal (Unexplained n) = ⊥
Refusal (Needed n) = ⊥
Refusal (Possible n) = ⊥
Refusal (RuledOut n) = ⊥
Refusal (Broken m at) = Unit {0}
Refusal (Refused m n) = Unit {0}

-- ---- the promise

-- the answer, and list and work area as the searches leave them
pub record Verdicts (image : List ℕ) (h budget : ℕ) (list area : List ℕ) (r : Verdict) (list' area' : List ℕ) : Type 0 where
  pub answer : r ≡ verdict_of h (verdict_result image h budget (length list) (length area)) (second image h budget)
  pub sets : list' ≡ verdict_sets h (verdict_result image h budget (length list) (length area)) (second image h budget) list
  pub work : area' ≡ work_of (verdict_result image h budget (length list) (length area)) area
  -- if it is no refusal, the verdict is right by the meaning
  pub meaning : (Refusal r → ⊥) → Meant image h budget r
