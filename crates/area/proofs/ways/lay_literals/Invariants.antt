-- `area::ways::lay_literals` meets its contract. Assumes nothing.
use Rattle.area.specs.Lay.{LiteralsLaid}
use Rattle.area.proofs.ways.lay_literals.Given as given

abbrev pub invariant-loop-p : given.invariant-loop-p
invariant-loop-p l = LiteralsLaid l.initial.work l.from l.p l.even l.work
