-- `joiner::gather_both` meets its contract: the left list, before the right one, then that.
-- Assumes nothing.
use Rattle.joiner.proofs.Joining.{gathered_full, gathered_both}
use Rattle.joiner.proofs.gather_both.Goals as goal

pub returns-in_err-some : goal.returns-in_err-some
returns-in_err-some c = rw c.from_residual.ensures (gathered_full c.args.left.now c.args.right.now _ c.in_err-some.ensures)

pub returns : goal.returns
returns c = gathered_both c.args.left.now c.args.right.now _ _ c.in_ok-some.ensures.list c.gather-2.ensures
