-- `memory::agenda::front` meets its contract. Assumes nothing.
use native.Mathlib.Omega.{arith}
use mathlib.Core.Path.{refl}
use Rattle.memory.specs.Front.{link_small, open_places, front_literal, front_record}
use Rattle.memory.proofs.agenda.front.Goals as goal

pub refilled-q-requires : goal.refilled-q-requires
refilled-q-requires c = link_small _ _ _ c.requires

pub field_at-requires : goal.field_at-requires
field_at-requires c = (open_places _ _ _ c.requires _ c.refilled-q.ensures).0 c.if-at-q.true

pub overflow_add-result : goal.overflow_add-result
overflow_add-result c = omega (arith, (open_places _ _ _ c.requires _ c.refilled-q.ensures).1)

pub returns-then-at-q : goal.returns-then-at-q
returns-then-at-q c = front_literal _ _ _ c.requires _ c.refilled-q.ensures _ _ c.if-at-q.true c.field_at.ensures.0 refl

pub overflow_add-result-2 : goal.overflow_add-result-2
overflow_add-result-2 c = omega (arith, (open_places _ _ _ c.requires _ c.refilled-q.ensures).1)

pub offset_bounds-work-at : goal.offset_bounds-work-at
offset_bounds-work-at c = omega (arith, (open_places _ _ _ c.requires _ c.refilled-q.ensures).1)

pub bounds-work-at : goal.bounds-work-at
bounds-work-at c = let p = open_places _ _ _ c.requires _ c.refilled-q.ensures in omega (arith, p.1, p.2)

pub returns : goal.returns
returns c = front_record _ _ _ c.requires _ c.refilled-q.ensures _ _ c.if-at-q.false refl refl
