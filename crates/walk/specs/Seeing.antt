-- What a step was that is seen as a value, and what one that is seen as a fault.
-- Assumes nothing.
use Rattle.std.specs.Prelude.{ℕ, ◌≡◌}
use Rattle.std.proofs.Math.Path.{ap}
use Rattle.std.proofs.Common.{ap₂}
use Rattle.image.specs.paper.Walk.{Step, found, fault}
use Rattle.image.specs.WalkLaws.{never}
use Rattle.faults.specs.Taking.{seen}

-- a step that is seen to find a value found one, and a step that is seen to be a fault is that fault
pub seen_found : {A : Type 0} (f : A → ℕ) (st : Step A) (y next : ℕ) → seen f st ≡ found y next → (x : A) × (st ≡ found x next) × (f x ≡ y)
seen_found f (found x at) y next e = (x, at_next, value)
  where
    at_next : found x at ≡ found x next
    at_next = let q : at ≡ next = cc in ap (found x) q

    value : f x ≡ y
    value = cc
seen_found f (fault n at) y next e = absurd (never e)

pub seen_fault : {A : Type 0} (f : A → ℕ) (st : Step A) (n p : ℕ) → seen f st ≡ fault n p → st ≡ fault n p
seen_fault f (found x at) n p e = cc
seen_fault f (fault m at) n p e =
    let q : m ≡ n = cc in
    let r : at ≡ p = cc in
    ap₂ fault q r
