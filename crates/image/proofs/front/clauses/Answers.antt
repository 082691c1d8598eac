-- `image::front::clauses` meets its contract. Assumes nothing.
use mathlib.Core.Path.{ap}
use Prim.Native.Nat.{ℕ, ◌+◌, ◌*◌}
use Rattle.image.specs.Shown.{goal_at, clause_count_at}
use Rattle.image.proofs.front.clauses.Goals as goal

pub returns : goal.returns
unfolding clause_count_at
returns c = ap (λ (n : ℕ). goal_at + 2 * n) c.goals.ensures.0
