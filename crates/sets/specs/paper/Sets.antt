-- Sets of abducibles as numbers, after paper 01, 5.5 and 5.6: abducible j is 2 ^ j, "a set has as many members as its number has ones",
-- and the order is by size, then by value. Everything is said of any number, however many abducibles there are.
-- Assumes nothing.
use Rattle.std.specs.Prelude.{◌≡◌, Bool, true, ◌&&◌, ◌||◌, ℕ, ltb, eqb}
use Rattle.std.specs.Int.Bits.{bit_and}
use Rattle.std.specs.Int.Count.{ones}

-- every member of a is in b
abbrev pub inside : ℕ → ℕ → Bool
inside a b = eqb (bit_and a b) a

-- a is inside b and is not b itself
abbrev pub Proper : ℕ → ℕ → Type 0
Proper a b = (inside a b ≡ true) × (a ≡ b → ⊥)

-- a has fewer members than b, or as many and is the smaller number
abbrev pub sooner : ℕ → ℕ → Bool
sooner a b = ltb (ones a) (ones b) || (eqb (ones a) (ones b) && ltb a b)
