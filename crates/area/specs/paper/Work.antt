-- The lent work area: 21 where it "has fewer than 16,384 numbers of 32 bits" (paper 01, 8.1), and a search leaves so many zeros.
-- Assumes nothing.
use Rattle.std.specs.Prelude.{ℕ}

abbrev pub work_numbers : ℕ
work_numbers = 16384
