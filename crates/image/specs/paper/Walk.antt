-- A walk over the image, by places. At a place it finds a value and the next place, or a fault with its number and its own
-- place. `do` goes on from what was found, and ends at the first fault.
-- Assumes nothing.
use Rattle.std.specs.Prelude.{ℕ, zero, suc, ◌+◌, ◌-◌, ◌*◌, Bool, true, false, List, [], ◌∷◌, length, get_or, leb, ltb}
use Rattle.base.specs.paper.Bools.{choose}

pub data Step (A : Type 0) : Type 0 where
  found : A → ℕ → Step A
  fault : ℕ → ℕ → Step A

abbrev pub Walk : Type 0 → Type 0
Walk A = ℕ → Step A

infixl 10 ◌>>=◌ ◌>>◌
abbrev pub after : {A B : Type 0} → Step A → (A → Walk B) → Step B
after (found x at) k = k x at
after (fault n at) k = fault n at

abbrev pub ◌>>=◌ : {A B : Type 0} → Walk A → (A → Walk B) → Walk B
◌>>=◌ w k at = after (w at) k

abbrev pub ◌>>◌ : {A B : Type 0} → Walk A → Walk B → Walk B
◌>>◌ w v at = after (w at) (λ _. v)

abbrev pub give : {A : Type 0} → A → Walk A
give x at = found x at

-- the place that lies n bytes ahead
abbrev pub ahead : ℕ → Walk ℕ
ahead n at = found (at + n) at

-- how many bytes there are up to `end`, behind the field that starts here
abbrev pub behind : ℕ → Walk ℕ
behind end at = found (end - (at + 2)) at

-- What a test of a value finds: nothing, or the refusal's number.
pub data Finding : Type 0 where
  fine : Finding
  wrong : ℕ → Finding

-- n, unless the test holds; then what comes next
abbrev pub unless : Bool → ℕ → Finding → Finding
unless true n next = next
unless false n next = wrong n

-- the first finding, and where it is fine the next
abbrev pub and_then : Finding → Finding → Finding
and_then fine next = next
and_then (wrong n) next = wrong n

-- how many values a byte has, and a field
abbrev pub byte_values : ℕ
byte_values = 256

abbrev pub field_values : ℕ
field_values = byte_values * byte_values

-- two bytes, the high one first
unfoldable pub field_at : List ℕ → ℕ → ℕ
field_at s at = byte_values * get_or s at 0 + get_or s (at + 1) 0

-- a field's value with what its test found: the value and the next place, or the fault
abbrev pub tested : Finding → ℕ → Walk ℕ
tested fine x at = found x (at + 2)
tested (wrong n) x at = fault n at

-- A field: 4 where it is not there, else the fault that its value has.
unfoldable pub field : List ℕ → (ℕ → Finding) → Walk ℕ
field s faults at = choose (leb (at + 2) (length s)) (tested (faults (field_at s at)) (field_at s at) at) (fault 4 at)

-- n walks one after the other, each told the sum of what those before it weigh
unfoldable pub running : {A : Type 0} → (ℕ → Walk A) → (A → ℕ) → ℕ → ℕ → Walk (List A)
running w weight zero sum = give []
running w weight (suc n) sum = do
  x ← w sum
  xs ← running w weight n (sum + weight x)
  give (x ∷ xs)

-- the same walk n times
abbrev pub times : {A : Type 0} → Walk A → ℕ → Walk (List A)
times w n = running (λ _. w) (λ _. 1) n 0

-- a walk that goes on only before `end`, and else has found no more
abbrev pub before : {A : Type 0} → ℕ → Walk (List A) → Walk (List A)
before end w at = choose (ltb at end) (w at) (found [] at)
