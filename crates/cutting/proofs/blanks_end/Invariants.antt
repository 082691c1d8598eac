-- `cutting::blanks_end` meets its contract. Assumes nothing.
use Rattle.cutting.specs.Spans.{Passing}
use Rattle.cutting.proofs.blanks_end.Given as given

abbrev pub invariant-loop-i : given.invariant-loop-i
invariant-loop-i l = Passing l.text l.at l.i
