-- `tables::records::lay_constraint` meets its contract. Assumes nothing.
use native.Mathlib.Omega.{arith}
use mathlib.Core.Path.{refl}
use Rattle.tables.specs.Constraints.{constraint_there, constraint_counted, alternatives_due, constraint_done}
use Rattle.tables.proofs.records.lay_constraint.Goals as goal

pub overflow_add-alternatives : goal.overflow_add-alternatives
overflow_add-alternatives c = let r = constraint_counted _ _ _ _ _ c.requires _ c.field_at-n.ensures.0 in omega arith

pub overflow_add-alternatives-2 : goal.overflow_add-alternatives-2
overflow_add-alternatives-2 c = let r = constraint_counted _ _ _ _ _ c.requires _ c.field_at-n.ensures.0 in omega arith

pub overflow_add-middle : goal.overflow_add-middle
overflow_add-middle c = let r = constraint_counted _ _ _ _ _ c.requires _ c.field_at-n.ensures.0 in omega arith

pub lay_alternatives-way-requires : goal.lay_alternatives-way-requires
lay_alternatives-way-requires c = alternatives_due _ _ _ _ _ c.requires _ _ c.field_at.ensures.0 c.field_at-n.ensures.0 _ refl

pub link_to-next-requires : goal.link_to-next-requires
link_to-next-requires c = (constraint_counted _ _ _ _ _ c.requires _ c.field_at-n.ensures.0).room

pub overflow_add-at-2 : goal.overflow_add-at-2
overflow_add-at-2 c = let r = constraint_counted _ _ _ _ _ c.requires _ c.field_at-n.ensures.0 in omega arith

pub lay_opposites-link-requires : goal.lay_opposites-link-requires
lay_opposites-link-requires c =
    let r = constraint_counted _ _ _ _ _ c.requires _ c.field_at-n.ensures.0 in
    record { literals = r.literals; room = r.room; long = omega (arith, c.requires.long, c.lay_alternatives-way.ensures.size) }

pub lay_record-requires : goal.lay_record-requires
lay_record-requires c =
    let p = c.requires in
    (omega (arith, (constraint_there _ _ _ _ _ p).few), omega (arith, p.long, c.lay_alternatives-way.ensures.size, c.lay_opposites-link.ensures.size))

pub returns : goal.returns
returns c =
    constraint_done _ _ _ _ _ c.requires _ _ c.field_at.ensures.0 c.field_at-n.ensures.0 _ _ _ _ _ _
    c.lay_alternatives-way.ensures c.link_to-next.ensures c.lay_opposites-link.ensures c.lay_record.ensures

pub shape_of-work : goal.shape_of-work
shape_of-work c = (returns c).size

pub overflow_add-end : goal.overflow_add-end
overflow_add-end c = let t = constraint_there _ _ _ _ _ c.requires in omega arith

pub field_at-requires : goal.field_at-requires
field_at-requires c = let t = constraint_there _ _ _ _ _ c.requires in omega arith

pub overflow_add-end-2 : goal.overflow_add-end-2
overflow_add-end-2 c = let t = constraint_there _ _ _ _ _ c.requires in omega (arith, c.field_at.ensures.0)

pub overflow_add-at : goal.overflow_add-at
overflow_add-at c = let t = constraint_there _ _ _ _ _ c.requires in omega arith

pub field_at-n-requires : goal.field_at-n-requires
field_at-n-requires c = let t = constraint_there _ _ _ _ _ c.requires in omega arith
