-- The reader's promise: the answer is `accepted`, or the number under which paper 01, 4 refuses the image, with its place.
-- Assumes nothing.
use Rattle.std.specs.Prelude.{ℕ, ◌≡◌, List, Result, Ok, Err, ⊤}
use Rattle.image.specs.paper.Decode.{Decoded, accepted, refused, decode}
use Rattle.image.specs.paper.Refusals.{number_of}
use Rattle.image.specs.declared.refusals.Fault.{Fault}

pub data Reading : Type 0 where
  Accepted : Reading
  Refused : (number place : ℕ) → Reading

-- what `read` returns, as a reading
abbrev pub reading : Result ⊤ Fault → Reading
reading (Ok x) = Accepted
reading (Err e) = Refused (number_of e.refusal) e.place

-- each case of the answer, by the paper's number
abbrev pub reading_of : Decoded → Reading
reading_of (accepted b) = Accepted
reading_of (refused n at) = Refused n at

-- what `read` promises of its answer r to an image s
pub record Reads (s : List ℕ) (r : Reading) : Type 0 where
  pub answer : r ≡ reading_of (decode s)
