-- The buffer of a file of groups.
-- Assumes nothing.
use Rattle.std.specs.Prelude.{ℕ, ◌+◌}

abbrev pub most_bytes : ℕ
most_bytes = 262144

-- one byte more, so that a longer file is told
abbrev pub groups_bytes : ℕ
groups_bytes = most_bytes + 1
