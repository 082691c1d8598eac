-- `kept::insert_all` meets its contract.
use Rattle.kept.proofs.Loops.{Inserting}
use Rattle.kept.proofs.insert_all.Given as given

abbrev pub invariant-loop-set : given.invariant-loop-set
invariant-loop-set l = Inserting l.initial.kept l.count l.list l.kept l.held l.set-index
