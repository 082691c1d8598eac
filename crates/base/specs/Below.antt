-- The numbers below a number.
-- Assumes nothing.
use Rattle.std.specs.Prelude.{ℕ, zero, suc, ◌+◌, ◌≤◌, ◌<◌, ◌≡◌, refl, Bool, true, false, ◌∷◌, eqb, length}
use Rattle.std.proofs.Common.{arith, ap, eqb-true, ne_eqb}
use mathlib.Core.List.Memᴰ
use Rattle.std.proofs.lemmas.Bool.{eqb-false}
use Rattle.base.specs.paper.Bools.{choose}
use Rattle.base.specs.Bools.{choose_false}
use Rattle.base.specs.paper.Lists.{◌∈◌, sum, below}
use Rattle.base.specs.Lists.{there}

pub below_in : (n p : ℕ) → p < n → p ∈ below n
unfolding below
below_in zero p h = absurd (omega arith)
below_in (suc n) p h = go (eqb p n) refl (below_in n p)
  where
    go : (t : Bool) → eqb p n ≡ t → (p < n → p ∈ below n) → p ∈ n ∷ below n
    go true e ih = Memᴰ.head (eqb-true p n e)
    go false e ih = there (ih (omega (arith, eqb-false p n e)))

pub length_below : (n : ℕ) → length (below n) ≡ n
unfolding below
length_below zero = refl
length_below (suc n) = ap suc (length_below n)

-- a number stands at most once among them
below_none : (h n : ℕ) → n ≤ h → sum (λ (p : ℕ). choose (eqb h p) 1 0) (below n) ≡ 0
unfolding below
below_none h zero q = refl
below_none h (suc n) q = omega (arith, choose_false {A = ℕ} 1 0 (ne_eqb h n (omega arith)), below_none h n (omega arith))

pub below_once : (h n : ℕ) → sum (λ (p : ℕ). choose (eqb h p) 1 0) (below n) ≤ 1
unfolding below
below_once h zero = omega arith
below_once h (suc n) = go (eqb h n) refl (below_once h n)
  where
    go : (t : Bool) → eqb h n ≡ t → sum (λ (p : ℕ). choose (eqb h p) 1 0) (below n) ≤ 1 → choose t 1 0 + sum (λ (p : ℕ). choose (eqb h p) 1 0) (below n) ≤ 1
    go true e ih = omega (arith, below_none h n (omega (arith, eqb-true h n e)))
    go false e ih = omega arith
