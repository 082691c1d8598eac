-- `kept::is_inside` meets its contract: the test for members outside is the test.
-- Assumes nothing.
use native.Mathlib.Omega.{arith}
use Rattle.sets.specs.SetLaws.{inside_outside}
use Rattle.kept.proofs.is_inside.Goals as goal

pub returns : goal.returns
returns c = inside_outside 64 c.args.a c.args.b (omega arith) (omega arith)
