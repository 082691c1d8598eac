-- `area::links::link_clauses` meets its contract. Assumes nothing.
use Rattle.area.specs.Links.{Linked}
use Rattle.area.proofs.links.link_clauses.Given as given

abbrev pub invariant-loop-c : given.invariant-loop-c
invariant-loop-c l = Linked l.initial.work l.count l.work l.c
