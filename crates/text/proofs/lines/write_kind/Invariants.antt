-- `text::lines::write_kind` meets its contract. Assumes nothing.
use lib.ListN.{drop}
use Rattle.text.specs.Lines.{lines_by, Owing}
use Rattle.text.proofs.lines.write_kind.Given as given

abbrev pub invariant-loop-entry : given.invariant-loop-entry
invariant-loop-entry l = Owing l.initial.room l.at (lines_by l.text l.mark l.entries) l.room l.end (lines_by l.text l.mark (drop l.entry-index l.entries))
