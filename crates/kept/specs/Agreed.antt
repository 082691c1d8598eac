-- What the functions on kept sets ask of a test, and what they leave in the lent list.
-- Assumes nothing.
use Rattle.std.specs.Prelude.{◌≡◌, Bool, List, ℕ, ◌≤◌, ◌<◌, length, take, Option, Some, None, MatchOption}
use Rattle.base.specs.paper.Bools.{choose}
use Rattle.base.specs.paper.Lists.{any}
use Rattle.base.specs.Lists.{ahead}
use Rattle.base.specs.Parts.{lay}

-- what is answered at a set is the test's answer
abbrev pub Decides : (ℕ → Bool → Type 0) → (ℕ → Bool) → Type 0
Decides answers test = (k : ℕ) (r : Bool) → answers k r → r ≡ test k

-- the place of the first set that passes the test
abbrev pub first : (ℕ → Bool) → List ℕ → Option ℕ
first test l = choose (any test l) (Some (ahead test l)) None

-- r is the number of the kept sets, which are laid over the front of the list
pub record Overlaid (kept old : List ℕ) (r : ℕ) (after : List ℕ) : Type 0 where
  pub count : r ≡ length kept
  pub list : after ≡ lay kept old

-- r is the number of the kept sets, if there is room for them all; they are laid over the front of the list, and what has no room there
-- is cut off
pub record Inserted (kept old : List ℕ) (r : Option ℕ) (after : List ℕ) : Type 0 where
  pub count : MatchOption r (length old < length kept) (λ n. (n ≡ length kept) × (n ≤ length old))
  pub list : after ≡ lay kept old

-- r is the number of the kept sets, which stand in the front of the list
pub record AtFront (kept : List ℕ) (r : ℕ) (after : List ℕ) : Type 0 where
  pub fits : r ≤ length after
  pub count : r ≡ length kept
  pub list : take r after ≡ kept
