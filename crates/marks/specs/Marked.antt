-- Which atoms are marked, by the words.
-- Assumes nothing.
use Rattle.std.specs.Prelude.{ℕ, ◌*◌, ◌/◌, ◌%◌, Bool, List, get_or}
use Rattle.base.specs.paper.Members.{has}
use Rattle.sets.specs.SetLaws.{set_bits}
use Rattle.marks.specs.declared.Marks.{Marks}

-- so many words, with a mark for so many atoms
abbrev pub words : ℕ
words = 4

abbrev pub markable : ℕ
markable = words * set_bits

-- the atom's mark in these words; behind the last word nothing is marked
unfoldable pub mark_in : List ℕ → ℕ → Bool
mark_in ws p = has (get_or ws (p / set_bits) 0) (p % set_bits)

unfoldable pub marked : Marks → ℕ → Bool
marked m p = mark_in m.words p
