-- Numbers as sets: j is a member of d where 2^j stands in d.
-- Assumes nothing.
use Rattle.std.specs.Prelude.{ℕ, ◌/◌, ◌%◌, ◌^◌, ◌≡◌, Bool, true, eqb}

-- the test that j is a member of d
abbrev pub has : ℕ → ℕ → Bool
has d j = eqb (d / 2 ^ j % 2) 1

-- every member of s is a member of d
abbrev pub Inside : ℕ → ℕ → Type 0
Inside s d = (j : ℕ) → has s j ≡ true → has d j ≡ true
