-- What the reader's functions answer, as steps of the walk.
-- Assumes nothing.
use Rattle.std.specs.Prelude.{ℕ, ◌+◌, ◌<◌, ◌≡◌, Result, Ok, Err, ⊤}
use Rattle.base.specs.paper.Lists.{sum}
use Rattle.image.specs.paper.Refusals.{number_of}
use Rattle.image.specs.paper.Walk.{Step, found, fault, Walk, Finding, fine, wrong, field_values, running}
use Rattle.image.specs.declared.refusals.Refusal.{Refusal}
use Rattle.image.specs.declared.refusals.Fault.{Fault}

-- a value with the next place, or a fault with its own
abbrev pub taken : {A : Type 0} → Result (A × ℕ) Fault → Step A
taken (Ok x) = found x.0 x.1
taken (Err e) = fault (number_of e.refusal) e.place

-- the next place alone
abbrev pub passed : Result ℕ Fault → Step ℕ
passed (Ok at) = found 0 at
passed (Err e) = fault (number_of e.refusal) e.place

-- what a test of a value finds
abbrev pub finding : Result ⊤ Refusal → Finding
finding (Ok x) = fine
finding (Err r) = wrong (number_of r)

-- a test, told by what its calls answer, finds these faults of each value that a field can have
abbrev pub Finds : (ℕ → Result ⊤ Refusal → Type 0) → (ℕ → Finding) → Type 0
Finds test faults = (x : ℕ) (r : Result ⊤ Refusal) → x < field_values → test x r → finding r ≡ faults x

-- a step with its value seen through f
abbrev pub seen : {A : Type 0} → (A → ℕ) → Step A → Step ℕ
seen f (found x next) = found (f x) next
seen f (fault n at) = fault n at

-- a running list seen as the sum of all weights, those from before it included
unfoldable pub poured : {A : Type 0} → (ℕ → Walk A) → (A → ℕ) → ℕ → ℕ → Walk ℕ
poured w weight n total at = seen (λ xs. total + sum weight xs) (running w weight n total at)
