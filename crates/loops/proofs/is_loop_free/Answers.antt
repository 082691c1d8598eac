-- `loops::is_loop_free` meets its contract: the clauses are the book's own. Assumes nothing.
use Prim.Native.Nat.{ℕ}
use mathlib.Core.Path.{ap₂, ◌∙◌}
use mathlib.Core.List.{List}
use Rattle.image.specs.paper.Book.{Clause}
use Rattle.image.specs.paper.Loops.{quiet, loop_free}
use Rattle.loops.proofs.is_loop_free.Goals as goal

pub returns : goal.returns
unfolding loop_free
returns c =
    λ b next e.
    let same = c.of.ensures b next e in
    c.settles.ensures ∙ ap₂ (λ (cs : List Clause) (n : ℕ). quiet cs n n) same.0 same.1
