-- `text::lines::write_line` meets its contract. Assumes nothing.
use Rattle.text.specs.Lines.{lined_byte}
use Rattle.text.proofs.lines.write_line.Goals as goal

pub returns : goal.returns
returns c = lined_byte _ c.write_name-end.ensures
