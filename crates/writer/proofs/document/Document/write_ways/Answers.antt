-- `writer::document::Document::write_ways` meets its contract. Assumes nothing.
use Rattle.std.specs.Prelude.{ℕ, List, ◌+◌, ◌*◌, ◌≤◌, ◌<◌, length}
use Rattle.std.proofs.Common.{arith, sym, subst}
use Rattle.std.proofs.lemmas.Slice.{between_is}
use Rattle.writer.specs.Fields.{number_in, lits_of, way_of}
use Rattle.writer.specs.Due.{Known, known_part}
use Rattle.writer.specs.Ways.{waying_end, waying_place, waying_room, waying_last, waying_again}
use Rattle.writer.proofs.document.Document.write_ways.Goals as goal
use Rattle.writer.proofs.document.Document.write_ways.Goals.{After-part_end-stop, After-write_way-end}

-- the part that starts here ends before the goal line
placed : (c : After-part_end-stop) → (c.loop-i.i ≤ c.part_end-stop.result) × (c.part_end-stop.result < c.args.self.now.goal)
placed c = waying_place _ _ _ _ _ _ c.loop-i.invariant c.args.self.now.due c.loop-i-test.true _ c.part_end-stop.ensures

pub slice_bounds-write_way-end : goal.slice_bounds-write_way-end
slice_bounds-write_way-end c = omega (arith, placed (goal.at.slice_bounds-write_way-end c).After-part_end-stop, c.args.self.now.due.within)

pub write_way-end-requires : goal.write_way-end-requires
write_way-end-requires c =
    let d = c.args.self.now in
    let l = c.loop-i in
    let stop : ℕ = c.part_end-stop.result in
    let P : List ℕ → Type 0 = λ part. Known part d.numbers.now × (l.end + 2 * length (way_of (lits_of (number_in d.numbers.now) part)) ≤ length l.image) in
    subst P (sym (between_is d.codes.now l.i stop)) (
      known_part d.codes.now d.numbers.now l.i stop d.due.known,
      waying_room _ _ _ _ _ _ l.invariant d.due c.loop-i-test.true _ c.part_end-stop.ensures c.requires.1,
    )

pub bounds-self-stop : goal.bounds-self-stop
bounds-self-stop c = omega (arith, placed (goal.at.bounds-self-stop c).After-part_end-stop, c.args.self.now.due.within)

pub returns-then-self-stop-eq-DOT : goal.returns-then-self-stop-eq-DOT
returns-then-self-stop-eq-DOT c =
    let d = c.args.self.now in
    let l = c.loop-i in
    waying_last _ _ _ _ _ _ l.invariant d.due c.loop-i-test.true _ c.part_end-stop.ensures
    (rw (between_is d.codes.now l.i c.part_end-stop.result) at c.write_way-end.ensures) c.if-self-stop-eq-DOT.true

pub loop-i-preserved : goal.loop-i-preserved
loop-i-preserved c =
    let d = c.args.self.now in
    let l = c.loop-i in
    waying_again _ _ _ _ _ _ l.invariant d.due c.loop-i-test.true _ c.part_end-stop.ensures
    (rw (between_is d.codes.now l.i c.part_end-stop.result) at c.write_way-end.ensures) c.if-self-stop-eq-DOT.false

pub returns : goal.returns
returns c = waying_end _ _ _ _ _ _ c.loop-i.invariant c.loop-i-test.false
