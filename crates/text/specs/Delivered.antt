-- Bytes that are made, and written into the room if they fit.
-- Assumes nothing.
use Rattle.std.specs.Prelude.{ℕ, ◌≤◌, ◌<◌, ◌≡◌, List, length, leb}
use Rattle.std.proofs.Common.{le-leb}
use Rattle.std.proofs.lemmas.Bool.{lt-leb}
use Rattle.base.specs.paper.Bools.{choose}
use Rattle.base.specs.Bools.{choose_true, choose_false}
use Rattle.image.specs.paper.Writing.{Ending, bytes, number}

-- how many bytes may be made
abbrev pub most_bytes : ℕ
most_bytes = 4294967295

abbrev pub delivery : ℕ → List ℕ → Ending
delivery room s = choose (leb (length s) room) (bytes s) (number 52)

pub short_room : (room : ℕ) (s : List ℕ) → room < length s → delivery room s ≡ number 52
short_room room s h = choose_false (bytes s) (number 52) (lt-leb (length s) room h)

pub long_room : (room : ℕ) (s : List ℕ) → length s ≤ room → delivery room s ≡ bytes s
long_room room s h = choose_true (bytes s) (number 52) (le-leb (length s) room h)
