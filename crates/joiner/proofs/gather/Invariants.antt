-- `joiner::gather` meets its contract.
use Rattle.joiner.proofs.Joining.{Gathering}
use Rattle.joiner.proofs.gather.Given as given

abbrev pub invariant-loop-i : given.invariant-loop-i
invariant-loop-i l = Gathering l.behind l.initial.out l.count l.list l.out l.held l.i
