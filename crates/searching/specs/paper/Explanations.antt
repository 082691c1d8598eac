-- The list that demand 3 asks for, in words of the meaning alone.
-- Assumes nothing.
use Rattle.std.specs.Prelude.{ℕ, ◌↔◌, List}
use Rattle.base.specs.paper.Lists.{◌∈◌}
use Rattle.image.specs.paper.Book.{Book}
use Rattle.sets.specs.paper.Kept.{Ordered}
use Rattle.meaning.specs.paper.Meaning.{Smallest}

-- The list names exactly the smallest explaining sets, in order (paper 01, 5.6). So each stands there once.
pub record Explanations (b : Book) (l : List ℕ) : Type 0 where
  pub members : (d : ℕ) → d ∈ l ↔ Smallest b d
  pub ordered : Ordered l
