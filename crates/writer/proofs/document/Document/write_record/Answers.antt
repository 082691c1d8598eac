-- `writer::document::Document::write_record` meets its contract. Assumes nothing.
use Rattle.writer.specs.Wrote.{wrote_record}
use Rattle.writer.proofs.document.Document.write_record.Goals as goal

pub returns : goal.returns
returns c = wrote_record _ c.write_inside-end.ensures c.put_field.ensures
