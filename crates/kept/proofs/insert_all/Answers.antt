-- `kept::insert_all` meets its contract.
-- Assumes nothing.
use Rattle.kept.proofs.Loops.{inserting_more}
use Rattle.kept.proofs.insert_all.Goals as goal

pub loop-set-preserved : goal.loop-set-preserved
loop-set-preserved c = inserting_more _ _ _ c.loop-set.invariant c.loop-set-test.true c.in_ok-held.ensures
