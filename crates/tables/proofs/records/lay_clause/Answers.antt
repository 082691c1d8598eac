-- `tables::records::lay_clause` meets its contract. Assumes nothing.
use Prim.Native.Nat.{ℕ, ◌-◌, ◌/◌}
use native.Mathlib.Omega.{arith}
use mathlib.Core.Path.{ap}
use lib.ListN.{length-set}
use Rattle.area.specs.Area.{clause_way}
use Rattle.area.specs.Lay.{pair_length}
use Rattle.tables.specs.Clauses.{clause_there, clause_counted, clause_laid}
use Rattle.tables.proofs.records.lay_clause.Goals as goal

pub list_of-requires : goal.list_of-requires
list_of-requires c = (clause_counted _ _ _ _ _ c.requires _ c.field_at.ensures.0).literals

pub lay_opposites-link-requires : goal.lay_opposites-link-requires
lay_opposites-link-requires c =
    let r = clause_counted _ _ _ _ _ c.requires _ c.field_at.ensures.0 in
    let p = c.requires in
    record { literals = r.literals; room = r.room; long = simp length-set (omega arith) }

pub offset_bounds-work-c : goal.offset_bounds-work-c
offset_bounds-work-c c = let r = clause_counted _ _ _ _ _ c.requires _ c.field_at.ensures.0 in omega arith

pub bounds-work-c : goal.bounds-work-c
bounds-work-c c =
    let r = clause_counted _ _ _ _ _ c.requires _ c.field_at.ensures.0 in
    let long = c.requires.long in
    omega (arith, c.lay_opposites-link.ensures.size, pair_length c.args.work.now (clause_way c.args.c) c.list_of.result c.field_at-2.result)

pub overflow_add-result : goal.overflow_add-result
overflow_add-result c = let r = clause_counted _ _ _ _ _ c.requires _ c.field_at.ensures.0 in omega arith

pub overflow_add-result-2 : goal.overflow_add-result-2
overflow_add-result-2 c = let r = clause_counted _ _ _ _ _ c.requires _ c.field_at.ensures.0 in omega arith

pub overflow_add-result-3 : goal.overflow_add-result-3
overflow_add-result-3 c = let r = clause_counted _ _ _ _ _ c.requires _ c.field_at.ensures.0 in omega arith

pub returns : goal.returns
returns c =
    clause_laid _ _ _ _ _ c.requires _ _ _ _ _ (ap (λ (k : ℕ). k / 2 - 1) c.field_at.ensures.0)
    c.list_of.ensures c.field_at-2.ensures.0 c.lay_opposites-link.ensures

pub shape_of-work : goal.shape_of-work
shape_of-work c = (returns c).size

pub field_at-requires : goal.field_at-requires
field_at-requires c = let t = clause_there _ _ _ _ _ c.requires in omega (arith, t.0)

pub overflow_sub-n : goal.overflow_sub-n
overflow_sub-n c = let t = clause_there _ _ _ _ _ c.requires in omega (arith, t.2, c.field_at.ensures.0)

pub overflow_add-at : goal.overflow_add-at
overflow_add-at c = let r = clause_counted _ _ _ _ _ c.requires _ c.field_at.ensures.0 in omega arith

pub offset_bounds-work-way : goal.offset_bounds-work-way
offset_bounds-work-way c = let r = clause_counted _ _ _ _ _ c.requires _ c.field_at.ensures.0 in omega arith

pub bounds-work-way : goal.bounds-work-way
bounds-work-way c = let r = clause_counted _ _ _ _ _ c.requires _ c.field_at.ensures.0 in omega arith

pub overflow_add-at-2 : goal.overflow_add-at-2
overflow_add-at-2 c = let r = clause_counted _ _ _ _ _ c.requires _ c.field_at.ensures.0 in let p = c.requires in omega arith

pub field_at-requires-2 : goal.field_at-requires-2
field_at-requires-2 c = let r = clause_counted _ _ _ _ _ c.requires _ c.field_at.ensures.0 in omega arith

pub offset_bounds-work-way-2 : goal.offset_bounds-work-way-2
offset_bounds-work-way-2 c = let r = clause_counted _ _ _ _ _ c.requires _ c.field_at.ensures.0 in omega arith

pub bounds-work-way-2 : goal.bounds-work-way-2
bounds-work-way-2 c =
    let r = clause_counted _ _ _ _ _ c.requires _ c.field_at.ensures.0 in
    let p = c.requires in
    simp length-set (omega arith)

pub overflow_add-at-3 : goal.overflow_add-at-3
overflow_add-at-3 c = let r = clause_counted _ _ _ _ _ c.requires _ c.field_at.ensures.0 in omega arith
