-- `judging::values::Judge::some_way` meets its contract. Assumes nothing.
use Prim.Native.Nat.{◌-◌}
use Rattle.std.proofs.Common.{◌≡◌}
use Rattle.judging.proofs.Constraint.{Tried}
use Rattle.judging.proofs.values.Judge.some_way.Given as given

abbrev pub invariant-loop-at : given.invariant-loop-at
invariant-loop-at l = (l.self ≡ l.fn.self) × Tried l.image l.fn.self.set l.start l.end l.at

abbrev pub decreases-loop-at : given.decreases-loop-at
decreases-loop-at l = l.end - l.at
