-- The program's own buffers: paper 01, 9.1.
-- Assumes nothing.
use Rattle.std.specs.Prelude.{ℕ, ◌+◌}
use Rattle.image.specs.Encode.{longest_image}

-- at most so many bytes of standard input are taken: one more than the longest image has
abbrev pub input_bytes : ℕ
input_bytes = longest_image + 1

-- room for so many sets
abbrev pub room : ℕ
room = 256
