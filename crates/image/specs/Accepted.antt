-- What the floors above may use of an accepted image: its book is within every limit.
-- Assumes nothing.
use Rattle.std.specs.Prelude.{ℕ, ◌≡◌, List, []}
use Rattle.std.proofs.Common.{sym, ap, ◌∙◌}
use Rattle.image.specs.paper.Book.{Book}
use Rattle.image.specs.paper.Faults.{limits}
use Rattle.image.specs.LoopLaws.{Closed}
use Rattle.image.specs.paper.Decode.{Decoded, accepted, refused, decode}
use Rattle.image.specs.Written.{Within, decode_written}

-- ---- the book of an accepted image

abbrev the_book : Decoded → Book
the_book (accepted b) = b
the_book (refused n p) = record { atoms = 0; abducibles = 0; goal = []; clauses = []; constraints = [] }

-- the book that an image says, where it is accepted
unfoldable pub book_in : List ℕ → Book
book_in s = the_book (decode s)

-- the image is accepted
abbrev pub IsBook : List ℕ → Type 0
IsBook s = decode s ≡ accepted (book_in s)

pub book_in_lem : (s : List ℕ) (b : Book) → decode s ≡ accepted b → book_in s ≡ b
unfolding book_in
book_in_lem s b e = ap the_book e

pub is_book : (s : List ℕ) (b : Book) → decode s ≡ accepted b → IsBook s
is_book s b e = e ∙ ap accepted (sym (book_in_lem s b e))

-- ---- what it has

pub within : (s : List ℕ) (b : Book) → decode s ≡ accepted b → Within limits b
within s b e = (decode_written s b e).within

pub closed : (b : Book) → Within limits b → Closed b
closed b w = record { heads = λ c m. (w.clauses_fine c m).known; bodies = λ c m l k. (w.clauses_fine c m).named l k }
