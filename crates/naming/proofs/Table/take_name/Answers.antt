-- `naming::Table::take_name` meets its contract. Assumes nothing.
use Rattle.std.specs.Prelude.{◌<◌}
use Rattle.std.proofs.Common.{arith, refl, ◌∙◌}
use Rattle.base.specs.Parts.{filter_length}
use Rattle.spelling.specs.Table.{is_marked, name_at}
use Rattle.naming.specs.Chains.{bit_from}
use Rattle.naming.specs.Names.{place_below, met_new, met_known}
use Rattle.naming.proofs.Table.take_name.Goals as goal
use Rattle.naming.proofs.Table.take_name.Goals.{In-Some}

-- the place that was found is in the table
found : (m : In-Some) → m.in-Some.i < m.args.at
found m =
    let d = m.requires.listed.1 in
    omega (arith, place_below m.requires.listed.0 (name_at m.args.text.now m.args.at) m.in-Some.i (m.in-Some.ensures m.requires.listed.0 d), d.chained.few)

pub enter-requires : goal.enter-requires
enter-requires c =
    let s = c.requires.sought in
    let d = c.requires.listed.1 in
    let few = filter_length is_marked c.requires.listed.0 in (
      omega (arith, s.short, s.name.within, s.some, d.counted, d.chained.few),
      omega (arith, s.short, s.name.within, s.some, d.marked, few, d.chained.few),
      omega (arith, s.short, s.name.within, s.some),
      s.bucket,
    )

pub offset_bounds-self-i : goal.offset_bounds-self-i
offset_bounds-self-i c = omega (arith, found (goal.at.offset_bounds-self-i c).In-Some)

pub bounds-self-i : goal.bounds-self-i
bounds-self-i c = omega (arith, found (goal.at.bounds-self-i c).In-Some)

pub overflow_cast-result : goal.overflow_cast-result
overflow_cast-result c = omega (arith, found (goal.at.overflow_cast-result c).In-Some)

pub overflow_add-result : goal.overflow_add-result
overflow_add-result c = omega (arith, found (goal.at.overflow_add-result c).In-Some)

pub returns-in-None : goal.returns-in-None
returns-in-None c =
    λ names d. met_new c.requires.sought d c.args.marked (c.in-None.ensures names d) c.enter.ensures

pub returns-in-Some : goal.returns-in-Some
returns-in-Some c =
    λ names d.
    met_known c.requires.sought d c.args.marked (c.from.ensures ∙ bit_from c.args.marked) c.in-Some.i (c.in-Some.ensures names d)
    (record { chained = d.chained; counted = d.counted; marked = d.marked }) refl
