-- `image::write::put_field` meets its contract. Assumes nothing.
use native.Mathlib.Omega.{arith}
use lib.ListN.{length-set}
use Rattle.image.specs.Laid.{laid_field}
use Rattle.image.proofs.write.put_field.Goals as goal

pub bounds-image-at-2 : goal.bounds-image-at-2
bounds-image-at-2 c = simp length-set (omega arith)

pub returns : goal.returns
returns c = laid_field _ _ _
