-- `image::fields::field_at` meets its contract: each byte is below 256. Assumes nothing.
use native.Mathlib.Omega.{arith}
use Rattle.image.specs.paper.Walk.{field_at}
use Rattle.image.proofs.fields.field_at.Goals as goal

pub returns : goal.returns
unfolding field_at
returns c = omega arith
