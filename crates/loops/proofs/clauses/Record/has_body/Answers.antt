-- `loops::clauses::Record::has_body` meets its contract. Assumes nothing.
use Rattle.loops.specs.Records.{part_bodied}
use Rattle.loops.proofs.clauses.Record.has_body.Goals as goal

pub returns : goal.returns
returns c = part_bodied c.args.self.part.now c.args.self.whole.0 c.args.self.whole.1
