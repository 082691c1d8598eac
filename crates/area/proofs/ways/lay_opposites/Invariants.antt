-- `area::ways::lay_opposites` meets its contract. Assumes nothing.
use Rattle.area.specs.Lay.{OppositesLaying}
use Rattle.area.proofs.ways.lay_opposites.Given as given

abbrev pub invariant-loop-i : given.invariant-loop-i
invariant-loop-i l = OppositesLaying l.image l.initial.work l.start l.first l.count l.next l.work l.i l.link
