-- `groups::Group::atom` meets its contract. Assumes nothing.
use Rattle.std.proofs.Common.{arith, sym, ◌∙◌}
use Rattle.groups.specs.RecordLaws.{formed, observed_index, observed_within}
use Rattle.groups.proofs.Group.atom.Goals as goal

pub overflow_mul-i : goal.overflow_mul-i
overflow_mul-i c = let f = formed _ c.args.self.formed in omega (arith, f.few, c.requires)

pub overflow_add-i : goal.overflow_add-i
overflow_add-i c = let f = formed _ c.args.self.formed in omega (arith, f.few, c.requires)

pub field_at-requires : goal.field_at-requires
field_at-requires c = observed_within _ _ (formed _ c.args.self.formed) c.requires

pub returns : goal.returns
returns c = (c.field_at.ensures.0 ∙ sym (observed_index _ _ c.requires), c.field_at.ensures.1)
