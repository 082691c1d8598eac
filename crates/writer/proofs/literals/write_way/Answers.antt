-- `writer::literals::write_way` meets its contract. Assumes nothing.
use native.Mathlib.Omega.{arith}
use Rattle.writer.specs.Wrote.{wrote_length, wrote_way, wrote_no_way, way_room, way_count_lem}
use Rattle.writer.proofs.literals.write_way.Goals as goal

pub write_names-end-requires : goal.write_names-end-requires
write_names-end-requires c = (c.requires.0, omega arith, way_room _ _ _ c.requires.1)

pub returns-then-end-first : goal.returns-then-end-first
returns-then-end-first c = wrote_no_way _ c.write_names-end.ensures c.if-end-first.true

pub put_field-requires : goal.put_field-requires
put_field-requires c =
    let e = c.write_names-end.ensures in
    omega (arith, way_count_lem _ _ _ c.requires.1 (λ z. c.if-end-first.false (omega (arith, z, e.end))), wrote_length e)

pub returns : goal.returns
returns c =
    wrote_way _ c.write_names-end.ensures c.if-end-first.false c.put_field.ensures
