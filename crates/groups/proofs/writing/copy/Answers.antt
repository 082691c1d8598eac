-- `groups::writing::copy` meets its contract. Assumes nothing.
use Rattle.std.proofs.Common.{arith, refl, append_assoc}
use Rattle.std.proofs.lemmas.List.Edits.{sets-eq}
use Rattle.std.proofs.lemmas.Grind.{common_steps}
use Rattle.groups.proofs.writing.copy.Goals as goal

pub returns : goal.returns
returns c =
    record { end = refl; room = rw (sets-eq c.args.bytes.now c.args.image.now c.args.at c.requires, append_assoc) (grind (arith, common_steps)) }
