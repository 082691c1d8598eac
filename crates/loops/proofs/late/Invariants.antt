-- `loops::late` meets its contract. Assumes nothing.
use mathlib.Core.Path.{◌≡◌}
use Rattle.marks.specs.Marked.{marked}
use Rattle.loops.specs.Left.{clauses_of}
use Rattle.loops.specs.Naming.{unmarked}
use Rattle.loops.specs.Order.{late}
use Rattle.loops.proofs.late.Given as goal

abbrev pub invariant-loop-clause : goal.invariant-loop-clause
invariant-loop-clause l =
    (goal.iterator-loop-clause).can_next l.clause-iterator
    × (goal.iterator-loop-clause).is_finite l.clause-iterator
    × (late (clauses_of l.clause-iterator) (marked l.named) (marked l.found) ≡ late (clauses_of l.fn.clauses) unmarked unmarked)
