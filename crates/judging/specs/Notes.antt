-- What the judge's inner functions say of an image and of their notes.
-- Assumes nothing.
use Rattle.std.specs.Prelude.{ℕ, ◌+◌, ◌-◌, ◌*◌, ◌/◌, ◌%◌, ◌≡◌, Bool, List, length, get_or, eqb, Option, Some, None}
use Rattle.base.specs.paper.Lists.{Every, flat}
use Rattle.image.specs.paper.Book.{Lit}
use Rattle.image.specs.Sound.{Known}
use Rattle.image.specs.paper.Walk.{field_at}
use Rattle.image.specs.Spell.{Stands, of_alternative}
use Rattle.image.specs.Shown.{lits_at}
use Rattle.meaning.specs.paper.Meaning.{value}
use Rattle.image.specs.Accepted.{IsBook, book_in}

-- ---- the image

-- the atom and the sign of the literal that a field is
abbrev pub lit_at : List ℕ → ℕ × Bool
lit_at field = (field_at field 0 / 2, eqb (field_at field 0 % 2) 0)

-- the literals from a place to an end
unfoldable pub lits_to : List ℕ → ℕ → ℕ → List Lit
lits_to s end at = lits_at s at ((end - at) / 2)

-- the literals of a part of the image
abbrev pub lits_of : List ℕ → List Lit
lits_of part = lits_to part (length part) 0

-- these alternatives stand from a place to an end, and name atoms of the book
pub record Ways (s : List ℕ) (at end : ℕ) (ways : List (List Lit)) : Type 0 where
  pub stand : Stands s at (flat of_alternative ways)
  pub over : at + 2 * length (flat of_alternative ways) ≡ end
  pub known : Every (Known (book_in s)) ways

-- ---- the judge

-- what it judges by
pub record Given : Type 0 where
  pub image : List ℕ
  pub set : ℕ

-- the image is accepted, and each note is its atom's value
pub record Noted (s : List ℕ) (d : ℕ) (notes : List (Option Bool)) : Type 0 where
  pub book : IsBook s
  pub true : (p : ℕ) (t : Bool) → get_or notes p None ≡ Some t → t ≡ value (book_in s) d p
