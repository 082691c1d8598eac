-- `cutting::run_at` meets its contract. Assumes nothing.
use Rattle.cutting.specs.Spans.{Running}
use Rattle.cutting.proofs.run_at.Given as given

abbrev pub invariant-loop-i : given.invariant-loop-i
invariant-loop-i l = Running l.text l.at l.i l.hash
