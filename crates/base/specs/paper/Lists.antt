-- Lists: membership, what holds of every member, the tests of every and of some, the members that pass a test, sums, lists of lists laid
-- flat, what holds of each member and each later one; and the numbers below a number.
-- Assumes nothing.
use Rattle.std.specs.Prelude.{◌≡◌, Bool, true, false, ◌&&◌, ◌||◌, ℕ, zero, suc, ◌+◌}
use mathlib.Core.List.{List, [], ◌∷◌, ◌++◌, Memᴰ}

infix 25 ◌∈◌
abbrev pub ◌∈◌ {ℓ} : {A : Type ℓ} → A → List A → Type ℓ
a ∈ l = Memᴰ a l

module _ {ℓ} {A : Type ℓ} where
  -- P holds of every member
  abbrev pub Every {κ} : (A → Type κ) → List A → Type (ℓ ⊔ κ)
  Every P l = (a : A) → a ∈ l → P a

  -- the test that t holds of every member
  abbrev pub all : (A → Bool) → List A → Bool
  all t [] = true
  all t (a ∷ l) = t a && all t l

  -- the test that t holds of some member
  abbrev pub any : (A → Bool) → List A → Bool
  any t [] = false
  any t (a ∷ l) = t a || any t l

  -- a in front of the list, where the test holds
  abbrev pub put : Bool → A → List A → List A
  put true a l = a ∷ l
  put false a l = l

  -- the members that pass the test, in their order
  abbrev pub filter : (A → Bool) → List A → List A
  filter t [] = []
  filter t (a ∷ l) = put (t a) a (filter t l)

  -- lists one after the other
  abbrev pub flat {κ} : {B : Type κ} → (B → List A) → List B → List A
  flat f [] = []
  flat f (b ∷ l) = f b ++ flat f l

  -- the sum of what each member weighs
  abbrev pub sum : (A → ℕ) → List A → ℕ
  sum w [] = 0
  sum w (a ∷ l) = w a + sum w l

  -- R holds of each member and each later one
  abbrev pub Pairwise {κ} : (A → A → Type κ) → List A → Type (ℓ ⊔ κ)
  Pairwise R [] = Unit
  Pairwise R (a ∷ l) = Every (R a) l × Pairwise R l

  -- no member is named twice
  abbrev pub Once : List A → Type ℓ
  Once l = Pairwise (λ a b. a ≡ b → ⊥) l

-- the numbers below n
unfoldable pub below : ℕ → List ℕ
below zero = []
below (suc n) = n ∷ below n
