-- `text::lines::write_name` meets its contract. Assumes nothing.
use Rattle.spelling.specs.Table.{name_at}
use Rattle.text.specs.Lines.{Owing}
use Rattle.text.proofs.lines.write_name.Given as given

abbrev pub invariant-loop-i : given.invariant-loop-i
invariant-loop-i l = Owing l.initial.room l.at (name_at l.text l.from) l.room l.end (name_at l.text l.i)
