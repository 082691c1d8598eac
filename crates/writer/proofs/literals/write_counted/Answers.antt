-- `writer::literals::write_counted` meets its contract. Assumes nothing.
use Rattle.writer.specs.Wrote.{wrote_counted}
use Rattle.writer.proofs.literals.write_counted.Goals as goal

pub returns : goal.returns
returns c = wrote_counted _ c.write_names-end.ensures c.put_field.ensures
