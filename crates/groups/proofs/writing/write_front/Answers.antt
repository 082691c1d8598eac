-- `groups::writing::write_front` meets its contract. Assumes nothing.
use mathlib.Core.Path.{◌≡◌, ap, ◌∙◌}
use native.Mathlib.Omega.{arith}
use lib.ListN.{length, length-set}
use Rattle.image.specs.Laid.{length_laid}
use Rattle.groups.specs.Writes.{front_wrote}
use Rattle.groups.proofs.writing.write_front.Lts as lts
use Rattle.groups.proofs.writing.write_front.Tie as tie
use Rattle.groups.proofs.writing.write_front.Reads as reads
use Rattle.groups.proofs.writing.write_front.Goals as goal

abbrev After-put_field : Type 0
After-put_field = lts.After-put_field tie.the-claims reads.Pre reads.Post

-- the room keeps its length
after_high : (p : After-put_field) → length p.put_field.new.image ≡ length p.args.image.now
after_high p = ap length p.put_field.ensures ∙ length_laid _ _ _ ∙ simp length-set

pub put_field-requires : goal.put_field-requires
put_field-requires c = simp length-set (omega arith)

pub put_field-requires-2 : goal.put_field-requires-2
put_field-requires-2 c = omega (arith, after_high c.before.before.before, c.requires)

pub shape_of-image : goal.shape_of-image
shape_of-image c =
    ap length c.put_field-2.ensures ∙ length_laid _ _ _ ∙ after_high c.before.before.before.before.before.before.before

pub returns : goal.returns
returns c =
    front_wrote c.args.size c.put_field.ensures c.put_field-2.ensures
