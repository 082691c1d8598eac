-- `Stands` says that field values stand in an image from a place on. How a book is written as such values is passed on from paper/Spell.
-- Assumes nothing.
use Rattle.std.specs.Prelude.{ℕ, ◌+◌, ◌≤◌, ◌≡◌, List, [], ◌∷◌, length}
use Rattle.image.specs.paper.Walk.{field_at}
unfoldable pub use Rattle.image.specs.paper.Spell.{of_lit, of_lits, of_alternative, of_record, of_clause, of_constraint, of_both, words, two, encode}

-- these field values stand in s from the place `at` on
pub data Stands (s : List ℕ) : ℕ → List ℕ → Type 0 where
  none : {at : ℕ} → Stands s at []
  more : {at x : ℕ} {xs : List ℕ} → at + 2 ≤ length s → field_at s at ≡ x → Stands s (at + 2) xs → Stands s at (x ∷ xs)
