-- `groups::writing::write` meets its contract: each call writes on where the one before it ended. Assumes nothing.
use Rattle.std.proofs.Common.{ℕ, arith, length-take, length-drop}
use Rattle.image.specs.Places.{shows}
use Rattle.image.specs.Shown.{shown_front}
use Rattle.groups.specs.paper.Group.{observed}
use Rattle.groups.specs.Pieces.{length_fact_bytes}
use Rattle.groups.proofs.Writes.{in_order, group_wrote}
use Rattle.groups.proofs.writing.write.Goals as goal

pub clauses-clauses-requires : goal.clauses-clauses-requires
clauses-clauses-requires c = shown_front (shows _ c.requires.book)

pub copy-counted-requires : goal.copy-counted-requires
copy-counted-requires c =
    let o = in_order c.clauses-clauses.ensures c.constraints-constraints.ensures c.count-facts.ensures.0 c.requires in
    omega (arith, length-take {A = ℕ}, length-drop {A = ℕ})

pub put_field-requires : goal.put_field-requires
put_field-requires c =
    let o = in_order c.clauses-clauses.ensures c.constraints-constraints.ensures c.count-facts.ensures.0 c.requires in
    omega (arith, length-take {A = ℕ}, length-drop {A = ℕ})

pub slice_bounds-copy-count-2 : goal.slice_bounds-copy-count-2
slice_bounds-copy-count-2 c = let o = in_order c.clauses-clauses.ensures c.constraints-constraints.ensures c.count-facts.ensures.0 c.requires in omega arith

pub slice_bounds-copy-start-2 : goal.slice_bounds-copy-start-2
slice_bounds-copy-start-2 c = let o = in_order c.clauses-clauses.ensures c.constraints-constraints.ensures c.count-facts.ensures.0 c.requires in omega arith

pub copy-told-requires : goal.copy-told-requires
copy-told-requires c =
    let o = in_order c.clauses-clauses.ensures c.constraints-constraints.ensures c.count-facts.ensures.0 c.requires in
    omega (arith, length-take {A = ℕ}, length-drop {A = ℕ})

pub write_facts-added-requires : goal.write_facts-added-requires
write_facts-added-requires c =
    let o = in_order c.clauses-clauses.ensures c.constraints-constraints.ensures c.count-facts.ensures.0 c.requires in
    omega (arith, length-take {A = ℕ}, length-drop {A = ℕ})

pub copy-requires : goal.copy-requires
copy-requires c =
    let o = in_order c.clauses-clauses.ensures c.constraints-constraints.ensures c.count-facts.ensures.0 c.requires in
    omega (arith, length-take {A = ℕ}, length-drop {A = ℕ}, length_fact_bytes (observed c.args.group.bytes.now))

pub returns : goal.returns
returns c =
    group_wrote c.requires (record { clauses = c.clauses-clauses.ensures; constraints = c.constraints-constraints.ensures; observations = c.count-facts.ensures.0 }) (λ i. (c.type_inv.book i).fits)
    c.field_at.ensures.0 c.write_front.ensures c.copy-counted.ensures c.put_field.ensures c.copy-told.ensures c.write_facts-added.ensures c.copy.ensures
