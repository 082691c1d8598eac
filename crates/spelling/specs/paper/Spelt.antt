-- Paper 02, A1.2: a text spells a document. Blanks: "Between two words or signs, and at both ends, there may be as many as one likes, or
-- none."
-- Assumes nothing.
use Rattle.std.specs.Prelude.{ℕ, ◌≡◌, true, List, [], ◌∷◌, ◌++◌}
use Rattle.base.specs.paper.Lists.{all}
use Rattle.spelling.specs.paper.Words.{Word, blank}
use Rattle.spelling.specs.paper.Document.{Document, of_document, Fine}

abbrev pub Blank : List ℕ → Type 0
Blank gap = all blank gap ≡ true

-- the words, one after the other, with blanks round them
abbrev pub Spaced : List ℕ → List Word → Type 0
Spaced t [] = Blank t
Spaced t (w ∷ ws) = (gap : List ℕ) × (rest : List ℕ) × Blank gap × (t ≡ gap ++ (w ++ rest)) × Spaced rest ws

abbrev pub Spelt : List ℕ → Document → Type 0
Spelt t d = Spaced t (of_document d) × Fine d
