-- `joiner::insert_both` meets its contract.
-- Assumes nothing.
use Rattle.joiner.proofs.Joining.{inserted_both}
use Rattle.joiner.proofs.insert_both.Goals as goal

pub returns : goal.returns
returns c = inserted_both c.args.left.now c.args.right.now _ _ c.in_ok-some.ensures.list c.insert_all-2.ensures
