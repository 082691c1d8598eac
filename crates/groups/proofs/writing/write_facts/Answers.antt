-- `groups::writing::write_facts` meets its contract: the facts from the next one on are still to be written. Assumes nothing.
use Rattle.std.proofs.Common.{ℕ, ◌+◌, ◌<◌, ◌∷◌, length, sym, ap, ◌∙◌, arith}
use Rattle.groups.specs.paper.Group.{observed}
use Rattle.groups.specs.RecordLaws.{observed_from, observed_all, observed_next, observed_none, observed_index}
use Rattle.groups.specs.Wrote.{owed_start, owed_step, owed_none}
use Rattle.groups.specs.Pieces.{fact_bytes}
use Rattle.groups.specs.Writes.{fact_wrote}
use Rattle.groups.proofs.writing.write_facts.Goals as goal

pub loop-i-init : goal.loop-i-init
loop-i-init c = record { place = omega arith; owed = owed_start (ap fact_bytes (observed_all _)) }

pub loop-i-preserved : goal.loop-i-preserved
loop-i-preserved c =
    let group = c.args.group.bytes.now in
    let left : c.loop-i.i < length (observed group) = omega arith in
    let atom = sym (observed_index group c.loop-i.i left) ∙ sym c.atom.ensures.0 in
    let atoms = observed_next group c.loop-i.i left ∙ ap (λ (x : ℕ). x ∷ observed_from group (c.loop-i.i + 1)) atom in
    record {
      place = omega arith;
      owed = owed_step (ap fact_bytes atoms) c.loop-i.invariant.owed (fact_wrote c.atom.result c.put_field.ensures c.put_field-in-loop-i.ensures);
    }

pub returns : goal.returns
returns c = owed_none (ap fact_bytes (observed_none _ _ (omega arith))) c.loop-i.invariant.owed
