-- `text::lines::write_lines` meets its contract. Assumes nothing.
use Rattle.text.specs.Lines.{lined_both}
use Rattle.text.proofs.lines.write_lines.Goals as goal

pub returns : goal.returns
returns c = lined_both _ _ _ _ _ _ _ _ c.write_kind-first.ensures c.write_kind.ensures
