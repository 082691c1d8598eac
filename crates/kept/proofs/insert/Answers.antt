-- `kept::insert` meets its contract: a kept set is inside, or the set joins what is left, or there is no room for it.
-- Assumes nothing.
use Rattle.std.proofs.Common.{refl, sym, ◌∙◌, arith}
use Rattle.kept.proofs.Loops.{insert_none, insert_room, insert_joins, insert_full}
use Rattle.kept.proofs.insert.Goals as goal

pub returns-then-has_inside : goal.returns-then-has_inside
returns-then-has_inside c = insert_none _ _ _ c.requires (sym c.has_inside.ensures ∙ c.if-has_inside.true)

pub returns-then-left-kept : goal.returns-then-left-kept
returns-then-left-kept c = insert_full _ _ _ c.requires (sym c.has_inside.ensures ∙ c.if-has_inside.false) c.squeeze-left.ensures refl c.if-left-kept.true

pub bounds-kept-left : goal.bounds-kept-left
bounds-kept-left c = insert_room _ _ _ c.requires (sym c.has_inside.ensures ∙ c.if-has_inside.false) c.squeeze-left.ensures refl c.if-left-kept.false

pub offset_bounds-kept-left : goal.offset_bounds-kept-left
offset_bounds-kept-left c = omega (arith, bounds-kept-left c)

pub overflow_add-result : goal.overflow_add-result
overflow_add-result c =
    omega (arith, insert_room _ _ _ c.requires (sym c.has_inside.ensures ∙ c.if-has_inside.false) c.squeeze-left.ensures refl c.if-left-kept.false)

pub returns : goal.returns
returns c = insert_joins _ _ _ c.requires (sym c.has_inside.ensures ∙ c.if-has_inside.false) c.squeeze-left.ensures refl c.if-left-kept.false
