-- `writer::document::Document::write_records` meets its contract. Assumes nothing.
use Prim.Native.Nat.{◌-◌}
use Rattle.writer.specs.Records.{Recording}
use Rattle.writer.proofs.document.Document.write_records.Given as given

abbrev pub invariant-loop-i : given.invariant-loop-i
invariant-loop-i l =
    Recording l.self.codes.now l.self.goal l.self.numbers.now l.kind l.initial.image l.at l.image l.i l.last l.count l.end

abbrev pub decreases-loop-i : given.decreases-loop-i
decreases-loop-i l = l.self.goal - l.i
