-- `visit::visit` meets its contract. Assumes nothing.
use mathlib.Core.Path.{refl}
use Rattle.visit.specs.Node.{went_pick}
use Rattle.visit.proofs.visit.Goals as goal

pub returns : goal.returns
returns c = went_pick _ _ _ _ _ _ _ c.if-r-budget.false refl c.pick.ensures
