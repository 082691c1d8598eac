-- `depends::spread` meets its contract. Assumes nothing.
use mathlib.Core.Path.{◌≡◌}
use Rattle.marks.specs.Marked.{marked}
use Rattle.loops.specs.Left.{clauses_of}
use Rattle.depends.specs.Spreading.{spread}
use Rattle.depends.proofs.spread.Given as goal

abbrev pub invariant-loop-clause : goal.invariant-loop-clause
invariant-loop-clause l =
    (goal.iterator-loop-clause).can_next l.clause-iterator
    × (goal.iterator-loop-clause).is_finite l.clause-iterator
    × (spread (clauses_of l.clause-iterator) l.atom (marked l.all) ≡ spread (clauses_of l.fn.clauses) l.atom (marked l.initial.all))
