-- `writer::document::Document::part_end` meets its contract: the part from i on ends where the part from `from` on does. Assumes nothing.
use mathlib.Core.Path.{◌≡◌}
use Rattle.writer.specs.Due.{stop_of}
use Rattle.writer.proofs.document.Document.part_end.Given as given

abbrev pub invariant-loop-i : given.invariant-loop-i
invariant-loop-i l = stop_of l.self.codes.now l.from l.self.goal ≡ stop_of l.self.codes.now l.i l.self.goal
