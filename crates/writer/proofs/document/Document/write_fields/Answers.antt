-- `writer::document::Document::write_fields` meets its contract. Assumes nothing.
use Rattle.std.proofs.Common.{◌+◌}
use Rattle.std.proofs.lemmas.List.{take_rest}
use Rattle.writer.specs.Whole.{fields_wrote}
use Rattle.writer.proofs.document.Document.write_fields.Goals as goal

pub returns : goal.returns
returns c =
    let d = c.args.self.now in
    fields_wrote d.codes.now d.goal d.numbers.now d.atoms d.abducibles _ c.requires c.put_field.ensures c.put_field-2.ensures
    (rw (take_rest d.codes.now (d.goal + 1)) at c.write_counted-clauses.ensures) c.write_statements-constraints.ensures c.write_statements.ensures
