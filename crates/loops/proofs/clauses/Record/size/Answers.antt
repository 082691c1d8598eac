-- `loops::clauses::Record::size` meets its contract. Assumes nothing.
use native.Mathlib.Omega.{arith}
use Rattle.loops.specs.Records.{part_long}
use Rattle.loops.proofs.clauses.Record.size.Goals as goal

pub returns : goal.returns
returns c = omega (arith, part_long c.args.self.part.now c.args.self.whole.0 c.args.self.whole.1)
