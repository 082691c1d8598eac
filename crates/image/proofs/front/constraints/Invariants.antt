-- `image::front::constraints` meets its contract. Assumes nothing.
use mathlib.Core.Path.{◌≡◌}
use Rattle.image.specs.Shown.{clause_place}
use Rattle.image.proofs.front.constraints.Given as goal

abbrev pub invariant-loop : goal.invariant-loop
invariant-loop l = l.place ≡ clause_place l.image l.counter
