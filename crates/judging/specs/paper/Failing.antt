-- The place of the first member of a list that fails a test.
-- Assumes nothing.
use Rattle.std.specs.Prelude.{ℕ, suc, ◌≡◌, Bool, true, false, List, [], ◌∷◌, ◌++◌, length}
use Rattle.base.specs.paper.Bools.{choose}
use Rattle.base.specs.paper.Lists.{Every}

-- The place, from 0, of the first member that fails the test; where none does, the number of members.
unfoldable pub first_failing : {A : Type 0} → (A → Bool) → List A → ℕ
first_failing t [] = 0
first_failing t (a ∷ l) = choose (t a) (suc (first_failing t l)) 0

-- the member at place i fails the test, and all before it pass
pub record First {A : Type 0} (t : A → Bool) (l : List A) (i : ℕ) : Type 0 where
  pub before : List A
  pub this : A
  pub behind : List A
  pub split : l ≡ before ++ this ∷ behind
  pub place : length before ≡ i
  pub passed : Every (λ (a : A). t a ≡ true) before
  pub fails : t this ≡ false
