-- `writer::document::Document::write_inside` meets its contract. Assumes nothing.
use Rattle.std.specs.Prelude.{ℕ, List, ◌+◌, ◌-◌, ◌*◌, ◌≤◌, length}
use Rattle.std.proofs.Common.{arith, sym, subst}
use Rattle.std.proofs.lemmas.Slice.{between_is}
use Rattle.writer.specs.Fields.{number_in, literal_factor, lits_of, rule_of, counted}
use Rattle.writer.specs.Due.{Known, known_part}
use Rattle.writer.specs.Inside.{clause_room, clause_wrote, conditions_room, ways_room, constraint_wrote}
use Rattle.writer.proofs.document.Document.write_inside.Goals as goal

pub write_names-requires : goal.write_names-requires
write_names-requires c =
    let a = c.args in
    let d = a.self.now in
    let P : List ℕ → Type 0 = λ part. Known part d.numbers.now × (1 ≤ literal_factor) × (2 * length (rule_of (number_in d.numbers.now) part) ≤ length a.image.now - a.at) in
    subst P (sym (between_is d.codes.now a.from a.to)) (
      known_part d.codes.now d.numbers.now a.from a.to d.due.known,
      omega arith,
      clause_room d.codes.now d.goal d.numbers.now a.kind a.from a.to c.if-kind-eq-DOT.true _ _ c.requires.2,
    )

pub returns-then-kind-eq-DOT : goal.returns-then-kind-eq-DOT
returns-then-kind-eq-DOT c =
    let a = c.args in
    let d = a.self.now in
    clause_wrote d.codes.now d.goal d.numbers.now a.kind a.from a.to c.if-kind-eq-DOT.true
    (rw (between_is d.codes.now a.from a.to) at c.write_names.ensures)

pub write_counted-ways-requires : goal.write_counted-ways-requires
write_counted-ways-requires c =
    let a = c.args in
    let d = a.self.now in
    let P : List ℕ → Type 0 = λ part. Known part d.numbers.now × (a.at + 2 * length (counted (lits_of (number_in d.numbers.now) part)) ≤ length a.image.now) in
    subst P (sym (between_is d.codes.now a.from a.to)) (
      known_part d.codes.now d.numbers.now a.from a.to d.due.known,
      conditions_room d.codes.now d.goal d.numbers.now a.kind a.from a.to c.if-kind-eq-DOT.false _ _ c.requires.2,
    )

pub write_ways-requires : goal.write_ways-requires
write_ways-requires c =
    let a = c.args in
    let d = a.self.now in (
      omega arith,
      ways_room d.codes.now d.goal d.numbers.now a.kind a.from a.to c.if-kind-eq-DOT.false
          (rw (between_is d.codes.now a.from a.to) at c.write_counted-ways.ensures) c.requires.2,
    )

pub returns : goal.returns
returns c =
    let a = c.args in
    let d = a.self.now in
    constraint_wrote d.codes.now d.goal d.numbers.now a.kind a.from a.to c.if-kind-eq-DOT.false
    (rw (between_is d.codes.now a.from a.to) at c.write_counted-ways.ensures) c.write_ways.ensures
