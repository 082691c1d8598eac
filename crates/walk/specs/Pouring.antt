-- Laws of `poured`, as a loop that counts i up to n uses them: done, one more record, and a fault.
-- Assumes nothing.
use Rattle.std.specs.Prelude.{ℕ, suc, ◌+◌, ◌-◌, ◌≤◌, ◌<◌, ◌≡◌, refl, List, ◌∷◌}
use Rattle.std.proofs.Math.Path.{ap}
use Rattle.std.proofs.Common.{◌∙◌}
use native.Mathlib.Omega.{arith}
use Rattle.base.specs.paper.Lists.{sum}
use Rattle.image.specs.paper.Walk.{Step, found, fault, Walk, after, give, running}
use Rattle.faults.specs.Taking.{seen, poured}
use Rattle.walk.specs.Seeing.{seen_found, seen_fault}

module _ {A : Type 0} (walk : ℕ → Walk A) (weight : A → ℕ) where
  joins : (x : A) (total : ℕ) (st : Step (List A))
      → seen (λ xs. total + sum weight xs) (after st (λ xs. give (x ∷ xs))) ≡ seen (λ xs. total + weight x + sum weight xs) st
  joins x total (found xs at) = let q : total + (weight x + sum weight xs) ≡ total + weight x + sum weight xs = omega arith in ap (λ (k : ℕ). found k at) q
  joins x total (fault n at) = refl

  more : (n total at y next : ℕ) → seen weight (walk total at) ≡ found y next → poured walk weight (suc n) total at ≡ poured walk weight n (total + y) next
  unfolding poured running
  more n total at y next e =
      let f = seen_found weight (walk total at) y next e in
      ap (λ (st : Step A). seen (λ xs. total + sum weight xs) (after st (λ x at'. after (running walk weight n (total + weight x) at') (λ xs. give (x ∷ xs))))) f.1
      ∙ joins f.0 total (running walk weight n (total + weight f.0) next)
      ∙ ap (λ (k : ℕ). poured walk weight n (total + k) next) f.2

  broken : (n total at m p : ℕ) → seen weight (walk total at) ≡ fault m p → poured walk weight (suc n) total at ≡ fault m p
  unfolding poured running
  broken n total at m p e =
      ap (λ (st : Step A). seen (λ xs. total + sum weight xs) (after st (λ x at'. after (running walk weight n (total + weight x) at') (λ xs. give (x ∷ xs)))))
      (seen_fault weight (walk total at) m p e)

  pub poured_done : (n i total at : ℕ) → n ≤ i → poured walk weight (n - i) total at ≡ found total at
  unfolding poured running
  poured_done n i total at h =
      let none : n - i ≡ 0 = omega arith in
      let same : total + 0 ≡ total = omega arith in
      ap (λ (k : ℕ). poured walk weight k total at) none ∙ ap (λ (k : ℕ). found k at) same

  pub poured_more : (n i total at y next : ℕ) → i < n → seen weight (walk total at) ≡ found y next
      → poured walk weight (n - i) total at ≡ poured walk weight (n - (i + 1)) (total + y) next
  poured_more n i total at y next h e =
      let left : n - i ≡ suc (n - (i + 1)) = omega arith in
      ap (λ (k : ℕ). poured walk weight k total at) left ∙ more (n - (i + 1)) total at y next e

  pub poured_fault : (n i total at m p : ℕ) → i < n → seen weight (walk total at) ≡ fault m p → poured walk weight (n - i) total at ≡ fault m p
  poured_fault n i total at m p h e =
      let left : n - i ≡ suc (n - (i + 1)) = omega arith in
      ap (λ (k : ℕ). poured walk weight k total at) left ∙ broken (n - (i + 1)) total at m p e

  -- the same, where a record is seen as the new total
  pub poured_total : (n i total at y next : ℕ) → i < n → seen (λ x. total + weight x) (walk total at) ≡ found y next
      → poured walk weight (n - i) total at ≡ poured walk weight (n - (i + 1)) y next
  poured_total n i total at y next h e =
      let f = seen_found (λ x. total + weight x) (walk total at) y next e in
      poured_more n i total at (weight f.0) next h (ap (seen weight) f.1) ∙ ap (λ (k : ℕ). poured walk weight (n - (i + 1)) k next) f.2

  pub poured_total_fault : (n i total at m p : ℕ) → i < n → seen (λ x. total + weight x) (walk total at) ≡ fault m p
      → poured walk weight (n - i) total at ≡ fault m p
  poured_total_fault n i total at m p h e =
      poured_fault n i total at m p h (ap (seen weight) (seen_fault (λ x. total + weight x) (walk total at) m p e))
