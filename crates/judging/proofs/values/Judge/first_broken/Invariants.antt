-- `judging::values::Judge::first_broken` meets its contract. Assumes nothing.
use Rattle.std.proofs.Common.{◌≡◌}
use Rattle.judging.proofs.Constraint.{Held}
use Rattle.judging.proofs.values.Judge.first_broken.Given as given

abbrev pub invariant-loop-i : given.invariant-loop-i
invariant-loop-i l = (l.self ≡ l.fn.self) × Held l.image l.fn.self.set l.i-end l.place l.i
