-- `area::ways::lay_opposites` meets its contract. Assumes nothing.
use mathlib.Core.Path.{ap}
use Prim.Native.Nat.{ℕ}
use lib.Bits.{bit_xor}
use Rattle.area.specs.Lay.{opposites_start, opposites_step}
use Rattle.area.proofs.ways.lay_opposites.Goals as goal

pub loop-i-init : goal.loop-i-init
loop-i-init c = opposites_start _ _ _ _ _ _

pub loop-i-preserved : goal.loop-i-preserved
loop-i-preserved c = opposites_step _ _ _ _ _ _ _ _ _ _ c.requires c.loop-i-test.true c.loop-i.invariant (ap (λ (n : ℕ). bit_xor n 1) c.field_at.ensures.0)
