-- `kept::squeeze` meets its contract.
use Rattle.std.specs.Prelude.{not}
use Rattle.sets.specs.paper.Sets.{inside}
use Rattle.kept.proofs.Loops.{Squeezed}
use Rattle.kept.proofs.squeeze.Given as given

abbrev pub invariant-loop-i : given.invariant-loop-i
invariant-loop-i l = Squeezed (λ k. not (inside l.set k)) l.initial.kept l.kept l.left l.i
