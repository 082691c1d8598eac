-- `judging::values::Judge::new` meets its contract. Assumes nothing.
use Rattle.judging.proofs.Memo.{noted_none}
use Rattle.judging.proofs.values.Judge.new.Goals as goal

pub invariant_of-result : goal.invariant_of-result
invariant_of-result c = noted_none _ _ 256 c.requires
