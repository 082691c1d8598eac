-- Paper 02, A1.4 and A1.11: what is answered to a text and a room, in the order of the refusals, and what is left in the room; said through
-- `Spelt`, so that no reader of texts has to be believed. Words in quotation marks are those of A1.
-- Assumes nothing.
use Rattle.std.specs.Prelude.{ℕ, ◌≤◌, ◌<◌, ◌≡◌, true, false, List, ◌++◌, length}
use Rattle.base.specs.paper.Lists.{flat}
use Rattle.image.specs.paper.Decode.{accepted, refused, decode}
use Rattle.image.specs.paper.Spell.{encode}
use Rattle.image.specs.paper.Writing.{Writing, Ending, bytes, number, answer_of, room_of}
use Rattle.spelling.specs.paper.Words.{ascii}
use Rattle.spelling.specs.paper.Document.{Document}
use Rattle.spelling.specs.paper.Spelt.{Spelt}
use Rattle.spelling.specs.paper.Said.{numbered, clashing, book_of}

-- "A text of 32,768 bytes is fine, one of 32,769 is 50."
abbrev pub longest_text : ℕ
longest_text = 32768

-- the text says d: it spells d, and is not too long
abbrev pub Says : List ℕ → Document → Type 0
Says text d = (length text ≤ longest_text) × Spelt text d

-- "the image that would be written"
abbrev pub image_of : Document → List ℕ
image_of d = encode (book_of d)

-- A1.11: "the names of the text's atoms, in their order, one line (LF) each"
abbrev pub name_lines : Document → List ℕ
name_lines d = flat (λ n. n ++ ascii "\n") (numbered d)

-- the text says d, in which no name stands both with and without `abd`
pub record Clear (text : List ℕ) (d : Document) : Type 0 where
  pub says : Says text d
  pub clear : clashing d ≡ false

-- 50, the text says nothing; 51, a name clashes; "5 or 7, whichever the walk of paper 01 over the image would meet first; 9"; 52, the room
-- is shorter than what is to be written. Else that is written, and the image is read as the book that the text says.
pub data Ends (what : Document → List ℕ) (text : List ℕ) (room : ℕ) : Ending → Type 0 where
  malformed : ((d : Document) → Says text d → ⊥) → Ends what text room (number 50)
  clashes : (d : Document) → Says text d → clashing d ≡ true → Ends what text room (number 51)
  turned : (d : Document) (n at : ℕ) → Clear text d → decode (image_of d) ≡ refused n at → Ends what text room (number n)
  short : (d : Document) → Clear text d → decode (image_of d) ≡ accepted (book_of d) → room < length (what d) → Ends what text room (number 52)
  whole : (d : Document) → Clear text d → decode (image_of d) ≡ accepted (book_of d) → length (what d) ≤ room → Ends what text room (bytes (what d))

-- A call's promise, by what it writes: the answer, and every byte of the room, on all inputs. That of the reader of texts is `Writes
-- image_of`, that of the call for the names `Writes nameLines`.
pub record Writes (what : Document → List ℕ) (text room : List ℕ) (r : Writing) (after : List ℕ) : Type 0 where
  pub ending : Ending
  pub ends : Ends what text (length room) ending
  pub answer : r ≡ answer_of ending
  pub left : after ≡ room_of ending room
