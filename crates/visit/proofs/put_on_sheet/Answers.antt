-- `visit::put_on_sheet` meets its contract. Assumes nothing.
use mathlib.Core.Path.{refl}
use Rattle.visit.specs.Want.{put_markable, put_fits, put_layable, assumed_visited, plain_visited, denied_visited, proved_visited}
use Rattle.visit.proofs.put_on_sheet.Goals as goal

pub mark-q-requires : goal.mark-q-requires
mark-q-requires c = put_markable _ _ _ _ c.requires

pub with_member-requires : goal.with_member-requires
with_member-requires c = put_fits _ _ _ _ c.requires _ _ c.mark-q.ensures c.if-a-eq-JOINS_SET.true

pub returns-then-a-eq-JOINS_SET : goal.returns-then-a-eq-JOINS_SET
returns-then-a-eq-JOINS_SET c = assumed_visited _ _ _ _ c.requires _ _ c.mark-q.ensures _ _ c.if-a-eq-JOINS_SET.true c.with_member.ensures refl

pub returns-then-a-eq-JOINS : goal.returns-then-a-eq-JOINS
returns-then-a-eq-JOINS c = plain_visited _ _ _ _ c.requires _ _ c.mark-q.ensures _ c.if-a-eq-JOINS.true refl

pub lay-link-requires : goal.lay-link-requires
lay-link-requires c = put_layable _ _ _ _ c.requires _ _ c.mark-q.ensures

pub returns-then-y-eq1 : goal.returns-then-y-eq1
returns-then-y-eq1 c = denied_visited _ _ _ _ c.requires _ _ c.mark-q.ensures _ _ _ c.if-a-eq-JOINS.false c.if-y-eq1.true c.lay-link.ensures refl

pub returns : goal.returns
returns c = proved_visited _ _ _ _ c.requires _ _ c.mark-q.ensures _ c.if-a-eq-JOINS_SET.false c.if-y-eq1.false refl
