-- `writer::document::Document::write_image` meets its contract. Assumes nothing.
use Rattle.std.specs.Prelude.{◌+◌, ◌*◌, ◌≤◌, length}
use Rattle.std.proofs.Common.{arith, ap, ◌∙◌}
use Rattle.image.specs.paper.Front.{atoms_at}
use Rattle.image.specs.Laid.{length_laid}
use Rattle.writer.specs.Fields.{number_in, fields_by}
use Rattle.writer.specs.Wrote.{wrote_length}
use Rattle.writer.specs.Whole.{framed_length, framed_wrote}
use Rattle.writer.proofs.document.Document.write_image.Goals as goal
use Rattle.writer.proofs.document.Document.write_image.Goals.{Start, After-write_fields-end}

-- there is room for the fields
room : (c : Start) → let d = c.args.self.now in atoms_at + 2 * length (fields_by (number_in d.numbers.now) d.codes.now d.goal d.atoms d.abducibles) ≤ length c.args.image.now
room c =
    let d = c.args.self.now in
    omega (arith, framed_length (fields_by (number_in d.numbers.now) d.codes.now d.goal d.atoms d.abducibles), c.requires)

pub write_fields-end-requires : goal.write_fields-end-requires
write_fields-end-requires c = room (goal.at.write_fields-end-requires c).Start

pub put_field-requires : goal.put_field-requires
put_field-requires c = omega (arith, wrote_length c.write_fields-end.ensures, room (goal.at.put_field-requires c).Start)

pub put_field-requires-2 : goal.put_field-requires-2
put_field-requires-2 c =
    let same = ap length c.put_field.ensures ∙ length_laid _ _ _ in
    omega (arith, same, wrote_length c.write_fields-end.ensures, room (goal.at.put_field-requires-2 c).Start)

pub bounds-image-0 : goal.bounds-image-0
bounds-image-0 c =
    let same = ap length c.put_field.ensures ∙ length_laid _ _ _ in
    let same-2 = ap length c.put_field-2.ensures ∙ length_laid _ _ _ in
    omega (arith, same, same-2, wrote_length c.write_fields-end.ensures, room (goal.at.bounds-image-0 c).Start)

pub returns : goal.returns
returns c =
    let d = c.args.self.now in
    framed_wrote (fields_by (number_in d.numbers.now) d.codes.now d.goal d.atoms d.abducibles) (room (goal.at.returns c).Start)
    c.write_fields-end.ensures c.put_field.ensures c.put_field-2.ensures
