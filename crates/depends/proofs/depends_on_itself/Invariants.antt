-- `depends::depends_on_itself` meets its contract. Assumes nothing.
use mathlib.Core.Path.{◌≡◌}
use mathlib.Core.Bool.{false}
use Rattle.marks.specs.Marked.{marked}
use Rattle.loops.specs.Left.{clauses_of}
use Rattle.depends.specs.Spreading.{Rounds}
use Rattle.depends.proofs.depends_on_itself.Given as goal

abbrev pub invariant-loop : goal.invariant-loop
invariant-loop l = Rounds (clauses_of l.clauses) l.atom l.counter (marked l.all) × (marked l.all l.atom ≡ false)
