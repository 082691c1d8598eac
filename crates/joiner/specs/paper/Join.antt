-- The joiner, after paper 01, 8.6: what it answers and what it leaves in the third list, for all lists; and the same in words of sets.
-- Assumes nothing.
use Rattle.std.specs.Prelude.{◌≡◌, Bool, ◌||◌, ◌↔◌, ◌⊎◌, List, ◌++◌, ℕ, ◌-◌, ◌≤◌, ◌<◌, ltb, length, Result, Ok, Err}
use Rattle.base.specs.paper.Bools.{choose}
use Rattle.base.specs.paper.Lists.{◌∈◌, Once}
use Rattle.sets.specs.paper.Sets.{Proper}
use Rattle.sets.specs.paper.Kept.{smallest, sort, Ordered, longest, zeros}
use Rattle.image.specs.declared.refusals.Refusal.{Refusal}
use Rattle.image.specs.paper.Refusals.{number_of}

-- what a join answers: how many sets there are, or a refusal's number
pub data Joined : Type 0 where
  Count Refused : ℕ → Joined

abbrev pub joined : Result ℕ Refusal → Joined
joined (Ok n) = Count n
joined (Err r) = Refused (number_of r)

-- "each set of the two lists of which neither list has a proper subset, one time", in order
unfoldable pub joint : List ℕ → List ℕ → List ℕ
joint left right = sort (smallest (left ++ right))

-- how a join ends: a list is too long, the result outnumbers the third list's entries, or this is the result
pub data Ending : Type 0 where
  too_long no_room : Ending
  result : List ℕ → Ending

-- a list of n entries is too long
abbrev pub long : ℕ → Bool
long n = ltb longest n

-- A long list comes before all else, the third among them; room is asked of the result, and not of what is kept on the way.
unfoldable pub ending : List ℕ → List ℕ → ℕ → Ending
ending left right room =
    choose (long (length left) || (long (length right) || long room)) too_long
    (choose (ltb room (length (joint left right))) no_room
    (result (joint left right)))

-- the answer at each ending
abbrev pub answer_of : Ending → Joined
answer_of too_long = Refused 20
answer_of no_room = Refused 31
answer_of (result l) = Count (length l)

-- the third list's entries at each ending: untouched, all 0, or the result and then zeros
abbrev pub entries_of : Ending → List ℕ → List ℕ
entries_of too_long out = out
entries_of no_room out = zeros (length out)
entries_of (result l) out = l ++ zeros (length out - length l)

-- The joiner's promise: the answer, and every entry of the third list.
pub record Joins (left right out : List ℕ) (r : Joined) (after : List ℕ) : Type 0 where
  pub answer : r ≡ answer_of (ending left right (length out))
  pub sets : after ≡ entries_of (ending left right (length out)) out

-- ---- in words of sets

-- s is in either list
abbrev pub Either : List ℕ → List ℕ → ℕ → Type 0
Either left right s = (s ∈ left) ⊎ (s ∈ right)

-- l has each set of the two lists of which neither list has a proper subset, one time, in order
pub record Joint (left right l : List ℕ) : Type 0 where
  pub members : (s : ℕ) → s ∈ l ↔ (Either left right s × ((t : ℕ) → Either left right t → Proper t s → ⊥))
  pub once : Once l
  pub ordered : Ordered l

-- one of the three lists is too long
abbrev pub Long : List ℕ → List ℕ → List ℕ → Type 0
Long left right out = (longest < length left) ⊎ ((longest < length right) ⊎ (longest < length out))

-- what the joiner does: refuse with 20 and touch nothing, refuse with 31 and leave zeros, or count the result and leave it, then zeros
pub data Outcome (left right out : List ℕ) (r : Joined) (after : List ℕ) : Type 0 where
  refused20 : Long left right out → r ≡ Refused 20 → after ≡ out → Outcome left right out r after
  refused31 : (l : List ℕ) → (Long left right out → ⊥) → Joint left right l → length out < length l
      → r ≡ Refused 31 → after ≡ zeros (length out) → Outcome left right out r after
  counted : (l : List ℕ) → (Long left right out → ⊥) → Joint left right l → length l ≤ length out
      → r ≡ Count (length l) → after ≡ l ++ zeros (length out - length l) → Outcome left right out r after
