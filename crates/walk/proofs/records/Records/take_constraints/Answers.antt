-- `walk::records::Records::take_constraints` meets its contract. Assumes nothing.
use Rattle.std.proofs.Common.{◌∙◌, rules}
use Rattle.image.specs.paper.Book.{literal_count}
use Rattle.image.specs.paper.Faults.{limits}
use Rattle.image.specs.paper.Decode.{constraint}
use Rattle.walk.specs.Each.{totals, each_poured}
use Rattle.walk.proofs.records.Records.take_constraints.Goals as goal

pub returns : goal.returns
returns c =
    c.take_each.ensures (totals (constraint c.args.self.now.image.now limits c.args.self.now.atoms) literal_count) (λ at sum r taken. search rules)
    ∙ rw c.start.ensures (each_poured _ _ _ _ _)
