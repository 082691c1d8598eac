-- `frames::undo` meets its contract. Assumes nothing.
use Rattle.frames.specs.Undo.{Undoing}
use Rattle.frames.proofs.undo.Given as given

abbrev pub invariant-loop-m : given.invariant-loop-m
invariant-loop-m l = Undoing l.initial.work l.marked l.down l.work l.m

abbrev pub decreases-loop-m : given.decreases-loop-m
decreases-loop-m l = l.m
