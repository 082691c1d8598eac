-- `depends::before_loop` meets its contract. Assumes nothing.
use Prim.Native.Nat.{ℕ, ◌+◌}
use mathlib.Core.Path.{◌≡◌}
use mathlib.Core.Bool.{Bool, true, false}
use Rattle.loops.specs.Left.{clauses_of}
use Rattle.marks.specs.declared.Marks.{Marks}
use Rattle.marks.specs.Marked.{marked}
use Rattle.depends.specs.Before.{depends_on_itself, before, bytes}
use Rattle.depends.proofs.before_loop.Given as goal

-- none of these atoms depends on itself
abbrev pub Free : (ℕ → Bool) → Marks → Type 0
Free t m = (q : ℕ) → marked m q ≡ true → t q ≡ false

abbrev pub invariant-loop-clause : goal.invariant-loop-clause
invariant-loop-clause l =
    let t : ℕ → Bool = depends_on_itself (clauses_of l.fn.clauses) l.fn.clauses.atoms in
    (goal.iterator-loop-clause).can_next l.clause-iterator
    × (goal.iterator-loop-clause).is_finite l.clause-iterator
    × Free t l.free
    × (l.passed + bytes (clauses_of l.clause-iterator) ≡ bytes (clauses_of l.fn.clauses))
    × (l.passed + bytes (before t (clauses_of l.clause-iterator)) ≡ bytes (before t (clauses_of l.fn.clauses)))
