-- `groups::Group::count` meets its contract. Assumes nothing.
use Rattle.std.proofs.Common.{arith}
use Rattle.groups.specs.RecordLaws.{formed}
use Rattle.groups.proofs.Group.count.Goals as goal

pub field_at-requires : goal.field_at-requires
field_at-requires c = omega (arith, (formed _ c.args.self.formed).long)

pub overflow_sub-result : goal.overflow_sub-result
overflow_sub-result c = omega (arith, (formed _ c.args.self.formed).size, c.field_at.ensures.0)

pub returns : goal.returns
returns c = let f = formed _ c.args.self.formed in omega (arith, f.size, f.few, c.field_at.ensures.0)
