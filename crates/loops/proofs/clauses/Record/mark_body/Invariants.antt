-- `loops::clauses::Record::mark_body` meets its contract. Assumes nothing.
use Prim.Native.Nat.{ℕ}
use mathlib.Core.Path.{◌≡◌}
use mathlib.Core.Bool.{◌||◌}
use Rattle.marks.specs.Marked.{marked}
use Rattle.loops.specs.Left.{clause_of, atoms_of}
use Rattle.loops.specs.Naming.{names, named_in}
use Rattle.loops.proofs.clauses.Record.mark_body.Given as goal

abbrev pub invariant-loop-atom : goal.invariant-loop-atom
invariant-loop-atom l =
    (goal.iterator-loop-atom).can_next l.atom-iterator
    × (goal.iterator-loop-atom).is_finite l.atom-iterator
    × ((q : ℕ) → (marked l.all q || named_in (atoms_of l.atom-iterator) q) ≡ (marked l.initial.all q || names (clause_of l.self) q))
