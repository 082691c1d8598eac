-- `loops::clauses::Record::head` meets its contract. Assumes nothing.
use native.Mathlib.Omega.{arith}
use Rattle.image.specs.paper.Faults.{limits}
use Rattle.loops.specs.Records.{clause_in, fine_head}
use Rattle.loops.proofs.clauses.Record.head.Goals as goal

pub returns : goal.returns
returns c = (c.field_at.ensures.0, omega (arith, c.field_at.ensures.0, fine_head limits.atoms (clause_in c.args.self.part.now) c.args.self.small))
