-- `writer::document::Document::write_ways` meets its contract. Assumes nothing.
use Prim.Native.Nat.{◌-◌}
use Rattle.writer.specs.Ways.{Waying}
use Rattle.writer.proofs.document.Document.write_ways.Given as given

abbrev pub invariant-loop-i : given.invariant-loop-i
invariant-loop-i l = Waying l.self.codes.now l.from l.self.goal l.self.numbers.now l.initial.image l.at l.image l.i l.end

abbrev pub decreases-loop-i : given.decreases-loop-i
decreases-loop-i l = l.self.goal - l.i
