-- `joiner::keep_smallest` meets its contract: both ways keep the smallest sets.
-- Assumes nothing.
use Rattle.joiner.proofs.Joining.{by_inserting, by_gathering}
use Rattle.joiner.proofs.keep_smallest.Goals as goal

pub returns-in-Some : goal.returns-in-Some
returns-in-Some c = by_inserting c.args.left.now c.args.right.now c.in-Some.ensures

pub returns-in-None : goal.returns-in-None
returns-in-None c = by_gathering c.args.left.now c.args.right.now _ _ c.gather_both.ensures
