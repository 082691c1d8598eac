-- `area::ways::lay_alternatives` meets its contract. Assumes nothing.
use Prim.Native.Nat.{◌-◌}
use Rattle.area.specs.Lay.{AlternativesLaying}
use Rattle.area.proofs.ways.lay_alternatives.Given as given

abbrev pub invariant-loop-from : given.invariant-loop-from
invariant-loop-from l = AlternativesLaying l.image l.initial.work l.start l.first l.end l.work l.way l.from

abbrev pub decreases-loop-from : given.decreases-loop-from
decreases-loop-from l = l.end - l.from
