-- `loops::settles` meets its contract. Assumes nothing.
use Rattle.marks.specs.Marked.{marked}
use Rattle.loops.specs.Left.{clauses_of}
use Rattle.loops.specs.Rounds.{Holding}
use Rattle.loops.proofs.settles.Given as goal

abbrev pub invariant-loop : goal.invariant-loop
invariant-loop l = Holding (clauses_of l.clauses) (marked l.initial.held) (marked l.held) l.counter
