-- `text::lines::write_kind` meets its contract. Assumes nothing.
use Rattle.text.specs.Lines.{owing_some, lines_next}
use Rattle.text.proofs.lines.write_kind.Goals as goal

pub loop-entry-preserved : goal.loop-entry-preserved
loop-entry-preserved c = owing_some c.loop-entry.invariant (lines_next _ _ _ _ c.loop-entry-test.true) c.write_entry-end.ensures
