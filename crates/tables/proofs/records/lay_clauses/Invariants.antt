-- `tables::records::lay_clauses` meets its contract. Assumes nothing.
use Rattle.tables.specs.Clauses.{ClausesLaid}
use Rattle.tables.proofs.records.lay_clauses.Given as given

abbrev pub invariant-loop-c : given.invariant-loop-c
invariant-loop-c l = ClausesLaid l.image l.initial.work l.work l.c l.place.at l.place.way
