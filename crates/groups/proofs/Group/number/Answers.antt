-- `groups::Group::number` meets its contract. Assumes nothing.
use Rattle.std.proofs.Common.{arith}
use Rattle.groups.specs.RecordLaws.{formed}
use Rattle.groups.proofs.Group.number.Goals as goal

pub field_at-requires : goal.field_at-requires
field_at-requires c = omega (arith, (formed _ c.args.self.formed).long)
