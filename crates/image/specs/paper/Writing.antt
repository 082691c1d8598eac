-- Paper 02, 0.2: what a call that writes bytes answers, and what it leaves in its room.
-- Assumes nothing.
use Rattle.std.specs.Prelude.{ℕ, List, ◌++◌, length, drop, Result, Ok, Err}
use Rattle.image.specs.paper.Refusals.{number_of}
use Rattle.image.specs.declared.refusals.Refusal.{Refusal}

-- what a call that writes bytes answers: how many it wrote, or the number under which it refuses
pub data Writing : Type 0 where
  Written : ℕ → Writing
  Refused : ℕ → Writing

-- what such a call returns, as a writing
abbrev pub writing : Result ℕ Refusal → Writing
writing (Ok n) = Written n
writing (Err refusal) = Refused (number_of refusal)

-- how a call ends: it writes these bytes, or refuses with a number
pub data Ending : Type 0 where
  bytes : List ℕ → Ending
  number : ℕ → Ending

-- the number of bytes written, or the refusal's number
abbrev pub answer_of : Ending → Writing
answer_of (bytes s) = Written (length s)
answer_of (number n) = Refused n

-- "Whatever a call writes, it writes from the front of its room on; the room's other bytes are as they were." And "a refusal leaves every
-- room as it was."
abbrev pub room_of : Ending → List ℕ → List ℕ
room_of (bytes s) room = s ++ drop (length s) room
room_of (number n) room = room
