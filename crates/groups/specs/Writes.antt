-- What the writing functions require, and what `write` leaves: the image of the book with a group's facts, from the room's front on.
-- Assumes nothing.
use Rattle.std.specs.Prelude.{ℕ, ◌+◌, ◌*◌, ◌/◌, ◌%◌, ◌≤◌, ◌≡◌, true, List, [], ◌∷◌, ◌++◌, length, drop, set}
use Rattle.std.proofs.Common.{subst, arith}
use Rattle.base.specs.paper.Lists.{all}
use Rattle.image.specs.paper.Front.{version, version_at, length_at, atoms_at}
use Rattle.image.specs.paper.Walk.{field_values}
use Rattle.image.specs.paper.Faults.{limits}
use Rattle.image.specs.Laid.{laid}
use Rattle.image.specs.Accepted.{IsBook, book_in}
use Rattle.image.specs.Encode.{longest_image}
use Rattle.image.specs.Shown.{clause_count_at, constraint_count_at}
use Rattle.groups.specs.paper.Group.{observed, is_defined, group_image}
use Rattle.groups.specs.Wrote.{WroteBytes, wrote_byte, wrote_field, wrote_more}
use Rattle.groups.specs.Pieces.{front_bytes, fact_size, fact_length, fact_bytes}

-- a book, a group that it knows, and room for any image
pub record Writable (bytes group image : List ℕ) : Type 0 where
  pub book : IsBook bytes
  pub known : all (is_defined (book_in bytes)) (observed group) ≡ true
  pub few : length (book_in bytes).clauses + length (observed group) ≤ limits.clauses
  pub room : longest_image ≤ length image

pub record WroteGroup (book group before after : List ℕ) (r : ℕ) : Type 0 where
  pub bytes : r ≡ length (group_image (book_in book) (observed group))
  pub image : after ≡ group_image (book_in book) (observed group) ++ drop r before

-- ---- the steps

pub front_wrote : {l m n : List ℕ} (size : ℕ) → m ≡ laid (set l version_at version) length_at (size / field_values ∷ []) → n ≡ laid m (length_at + 2) (size % field_values ∷ [])
    → WroteBytes (front_bytes size) l version_at n atoms_at
unfolding front_bytes
front_wrote {l} size e f = wrote_more (wrote_more (wrote_byte l version_at version) (wrote_field (size / field_values) e)) (wrote_field (size % field_values) f)

pub fact_wrote : {l m n : List ℕ} {at : ℕ} (x : ℕ) → m ≡ laid l at (fact_size ∷ []) → n ≡ laid m (at + 2) (x ∷ [])
    → WroteBytes (fact_bytes (x ∷ [])) l at n (at + fact_length)
fact_wrote {l} {n = n} {at = at} x e f =
    subst (WroteBytes (fact_bytes (x ∷ [])) l at n) (omega arith) (wrote_more (wrote_field fact_size e) (wrote_field x f))

-- ---- the whole

-- what `write` finds in the book and in the group: where the counts stand, and how many facts there are
pub record Found (book group : List ℕ) (counted told facts : ℕ) : Type 0 where
  pub clauses : counted ≡ clause_count_at book
  pub constraints : told ≡ constraint_count_at book
  pub observations : facts ≡ length (observed group)

-- the places in their order, and the room
pub record Ordered (book image : List ℕ) (counted told facts : ℕ) : Type 0 where
  pub front : atoms_at ≤ counted
  pub order : counted + 2 ≤ told
  pub within : told ≤ length book
  pub room : length book + fact_length * facts ≤ length image
