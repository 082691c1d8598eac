-- `writer::document::Document::write_records` meets its contract. Assumes nothing.
use Rattle.std.specs.Prelude.{◌≤◌, ◌<◌}
use Rattle.std.proofs.Common.{arith, sym, ◌∙◌}
use Rattle.writer.specs.Records.{recording_end, recording_place, recording_pass, recording_room, recording_again}
use Rattle.writer.proofs.document.Document.write_records.Goals as goal
use Rattle.writer.proofs.document.Document.write_records.Goals.{After-part_end-stop}

-- the part that starts here ends before the goal line
placed : (c : After-part_end-stop) → (c.loop-i.i ≤ c.part_end-stop.result) × (c.part_end-stop.result < c.args.self.now.goal)
placed c = recording_place _ _ _ _ _ _ c.loop-i.invariant c.args.self.now.due c.loop-i-test.true _ c.part_end-stop.ensures

pub overflow_add-i : goal.overflow_add-i
overflow_add-i c = omega (arith, placed (goal.at.overflow_add-i c).After-part_end-stop, c.args.self.now.due.within)

pub offset_bounds-self-stop : goal.offset_bounds-self-stop
offset_bounds-self-stop c = omega (arith, placed (goal.at.offset_bounds-self-stop c).After-part_end-stop, c.args.self.now.due.within)

pub bounds-self-stop : goal.bounds-self-stop
bounds-self-stop c = omega (arith, placed (goal.at.bounds-self-stop c).After-part_end-stop, c.args.self.now.due.within)

pub loop-i-preserved-then-not-starts : goal.loop-i-preserved-then-not-starts
loop-i-preserved-then-not-starts c =
    recording_pass _ _ _ _ _ _ c.loop-i.invariant c.args.self.now.due c.loop-i-test.true _ c.part_end-stop.ensures
    (sym c.starts.ensures ∙ c.if-not-starts.true)

pub write_record-end-requires : goal.write_record-end-requires
write_record-end-requires c =
    let p = placed (goal.at.write_record-end-requires c).After-part_end-stop in (
      p.0,
      p.1,
      recording_room _ _ _ _ _ _ c.loop-i.invariant c.args.self.now.due c.loop-i-test.true _
          c.part_end-stop.ensures (sym c.starts.ensures ∙ c.if-not-starts.false) c.requires,
    )

pub loop-i-preserved : goal.loop-i-preserved
loop-i-preserved c =
    recording_again _ _ _ _ _ _ c.loop-i.invariant c.args.self.now.due c.loop-i-test.true _ c.part_end-stop.ensures
    (sym c.starts.ensures ∙ c.if-not-starts.false) c.write_record-end.ensures

pub returns : goal.returns
returns c = recording_end _ _ _ _ _ _ c.loop-i.invariant c.loop-i-test.false c.put_field.ensures
