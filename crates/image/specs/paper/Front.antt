-- The image's front, after paper 01, 3: the version byte, the four bytes of the length, and A, the first of the two-byte fields behind them.
-- Assumes nothing.
use Rattle.std.specs.Prelude.{ℕ, ◌+◌}

-- the version byte stands first, and is 1
abbrev pub version : ℕ
version = 1

abbrev pub version_at : ℕ
version_at = 0

-- the length of the rest, as two fields
abbrev pub length_at : ℕ
length_at = version_at + 1

-- A, with which the fields begin
abbrev pub atoms_at : ℕ
atoms_at = length_at + 4
