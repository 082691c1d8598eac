-- Records one behind another, each told the total before it, as a loop takes them.
-- Assumes nothing.
use Rattle.std.specs.Prelude.{ℕ, zero, suc, ◌≡◌, ◌+◌, ◌-◌, ◌<◌, ◌≤◌, refl, Result, List, ◌∷◌}
use Rattle.std.proofs.Common.{ap, ◌∙◌, arith}
use Rattle.base.specs.paper.Lists.{sum}
use Rattle.image.specs.paper.Walk.{Step, found, fault, Walk, after, give, running}
use Rattle.image.specs.declared.refusals.Fault.{Fault}
use Rattle.faults.specs.Taking.{taken, seen, poured}

-- n steps one behind the other, from a total to the next
unfoldable pub each : {T : Type 0} → (T → Walk T) → ℕ → T → Walk T
each step zero total at = found total at
each step (suc n) total at = after (step total at) (each step n)

-- a function, told by what its calls answer, takes such a step
abbrev pub Steps : {T : Type 0} → (ℕ → T → Result (T × ℕ) Fault → Type 0) → (T → Walk T) → Type 0
Steps {T = T} post step = (at : ℕ) (total : T) (r : Result (T × ℕ) Fault) → post at total r → taken r ≡ step total at

module _ {T : Type 0} (step : T → Walk T) where
  pub each_done : (n i : ℕ) (total : T) (at : ℕ) → n ≤ i → each step (n - i) total at ≡ found total at
  unfolding each
  each_done n i total at h = let none : n - i ≡ 0 = omega arith in rw none

  pub each_more : (n i : ℕ) (total : T) (at : ℕ) → i < n → {st : Step T} → st ≡ step total at → each step (n - i) total at ≡ after st (each step (n - (i + 1)))
  unfolding each
  each_more n i total at h e = let left : n - i ≡ suc (n - (i + 1)) = omega arith in rw (left, e)

module _ {A : Type 0} (walk : ℕ → Walk A) (weight : A → ℕ) where
  abbrev pub totals : ℕ → Walk ℕ
  totals total at = seen (λ x. total + weight x) (walk total at)

  joins : (x : A) (total : ℕ) (st : Step (List A))
      → seen (λ xs. total + weight x + sum weight xs) st ≡ seen (λ xs. total + sum weight xs) (after st (λ xs. give (x ∷ xs)))
  joins x total (found xs at) = let q : total + weight x + sum weight xs ≡ total + (weight x + sum weight xs) = omega arith in ap (λ (k : ℕ). found k at) q
  joins x total (fault n at) = refl

  pub each_poured : (n total at : ℕ) → each totals n total at ≡ poured walk weight n total at
  unfolding each poured running
  each_poured zero total at = let q : total ≡ total + 0 = omega arith in ap (λ (k : ℕ). found k at) q
  each_poured (suc n) total at = go (walk total at) (λ t a. each_poured n t a)
    where
      go : (st : Step A) → ((t a : ℕ) → each totals n t a ≡ poured walk weight n t a)
          → after (seen (λ x. total + weight x) st) (each totals n)
          ≡ seen (λ xs. total + sum weight xs) (after st (λ x a. after (running walk weight n (total + weight x) a) (λ xs. give (x ∷ xs))))
      go (found x next) ih = ih (total + weight x) next ∙ joins x total (running walk weight n (total + weight x) next)
      go (fault m p) ih = refl
