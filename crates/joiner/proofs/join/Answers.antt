-- `joiner::join` meets its contract: a long list, no room, and the result.
-- Assumes nothing.
use Rattle.std.proofs.Common.{refl}
use Rattle.joiner.specs.paper.Join.{too_long}
use Rattle.joiner.specs.JoinLaws.{joins_by, ending_long}
use Rattle.joiner.proofs.Joining.{too_long_lem, short, no_room_lem, filled}
use Rattle.joiner.proofs.join.Goals as goal

pub returns-then-max-gt-LONGEST : goal.returns-then-max-gt-LONGEST
returns-then-max-gt-LONGEST c =
    joins_by too_long (ending_long _ _ _ (too_long_lem _ _ _ _ _ c.max.ensures c.max-2.ensures c.if-max-gt-LONGEST.true)) refl refl

pub returns-in_default : goal.returns-in_default
returns-in_default c =
    no_room_lem _ _ _ (short _ _ _ _ _ c.max.ensures c.max-2.ensures c.if-max-gt-LONGEST.false) c.keep_smallest.ensures c.keep_smallest.auto.out c.in_default.is c.clear.ensures

pub returns : goal.returns
returns c =
    filled _ _ _ (short _ _ _ _ _ c.max.ensures c.max-2.ensures c.if-max-gt-LONGEST.false) c.keep_smallest.ensures c.keep_smallest.auto.out c.in-Some.is c.order.ensures c.clear-2.ensures
