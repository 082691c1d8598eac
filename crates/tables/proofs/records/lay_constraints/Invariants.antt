-- `tables::records::lay_constraints` meets its contract. Assumes nothing.
use Rattle.tables.specs.Constraints.{ConstraintsLaying}
use Rattle.tables.proofs.records.lay_constraints.Given as given

abbrev pub invariant-loop-k : given.invariant-loop-k
invariant-loop-k l = ConstraintsLaying l.image l.initial.work l.initial.place.way l.work l.k l.place.at l.place.way
