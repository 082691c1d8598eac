-- No two refusals have one number.
-- Assumes nothing.
use Rattle.std.specs.Prelude.{ℕ, ◌≡◌, refl, eqb}
use Rattle.std.proofs.Common.{ap, sym, ◌∙◌}
use Rattle.base.specs.paper.Bools.{choose}
use Rattle.image.specs.paper.Refusals.{number_of}
use Rattle.image.specs.declared.refusals.Refusal.{Refusal}
use Rattle.image.specs.declared.refusals.Refusal.TheVariants.{ShortImage, Version, Length, Misfit, Limit, NoAtom, AbducibleHead, EmptyAlternative, Loop, LongList, ShortArea, LargeBudget, NoAbducible, UsedUp, NoRoom, NoHypothesis, MalformedGroup, Undefined, MalformedText, Clash, ShortRoom}

-- the refusal of a number; of one that none has, the last
abbrev pub refusal_of : ℕ → Refusal
refusal_of n =
    choose (eqb n 1) ShortImage (choose (eqb n 2) Version (choose (eqb n 3) Length
    (choose (eqb n 4) Misfit (choose (eqb n 5) Limit (choose (eqb n 6) NoAtom
    (choose (eqb n 7) AbducibleHead (choose (eqb n 8) EmptyAlternative (choose (eqb n 9) Loop
    (choose (eqb n 20) LongList (choose (eqb n 21) ShortArea (choose (eqb n 22) LargeBudget
    (choose (eqb n 23) NoAbducible (choose (eqb n 30) UsedUp (choose (eqb n 31) NoRoom
    (choose (eqb n 40) NoHypothesis (choose (eqb n 41) MalformedGroup (choose (eqb n 42) Undefined
    (choose (eqb n 50) MalformedText (choose (eqb n 51) Clash ShortRoom)))))))))))))))))))

pub refusal_number : (r : Refusal) → refusal_of (number_of r) ≡ r
refusal_number ShortImage = refl
refusal_number Version = refl
refusal_number Length = refl
refusal_number Misfit = refl
refusal_number Limit = refl
refusal_number NoAtom = refl
refusal_number AbducibleHead = refl
refusal_number EmptyAlternative = refl
refusal_number Loop = refl
refusal_number LongList = refl
refusal_number ShortArea = refl
refusal_number LargeBudget = refl
refusal_number NoAbducible = refl
refusal_number UsedUp = refl
refusal_number NoRoom = refl
refusal_number NoHypothesis = refl
refusal_number MalformedGroup = refl
refusal_number Undefined = refl
refusal_number MalformedText = refl
refusal_number Clash = refl
refusal_number ShortRoom = refl

pub number_tells : (a b : Refusal) → number_of a ≡ number_of b → a ≡ b
number_tells a b e = sym (refusal_number a) ∙ (ap refusal_of e ∙ refusal_number b)
