-- The buffers of a file that an argument names.
-- Assumes nothing.
use Rattle.std.specs.Prelude.{ℕ, ◌+◌}
use Rattle.image.specs.Encode.{longest_image}
use Rattle.spelling.specs.paper.Answer.{longest_text}

-- one byte more than the longest image has, so that a longer one is still refused
abbrev pub file_bytes : ℕ
file_bytes = longest_image + 1

-- and of a text
abbrev pub text_bytes : ℕ
text_bytes = longest_text + 1
