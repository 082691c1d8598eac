-- The most that a case may name: bytes of a text, and of a room.
-- Assumes nothing.
use Rattle.std.specs.Prelude.{ℕ}

abbrev pub text_bytes : ℕ
text_bytes = 40000

abbrev pub room_bytes : ℕ
room_bytes = 10000
