-- `frames::undo` meets its contract. Assumes nothing.
use mathlib.Core.Path.{refl}
use Rattle.frames.specs.Undo.{undoing_next, undoing_done}
use Rattle.frames.proofs.undo.Goals as goal

pub loop-m-preserved : goal.loop-m-preserved
loop-m-preserved c = undoing_next _ _ _ _ _ _ c.requires.low c.loop-m.invariant c.loop-m-test.true refl

pub returns : goal.returns
returns c = undoing_done _ _ _ _ _ c.loop-m.invariant c.loop-m-test.false
