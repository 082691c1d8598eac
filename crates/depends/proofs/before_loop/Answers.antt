-- `depends::before_loop` meets its contract. Assumes nothing.
use Prim.Native.Nat.{ℕ}
use mathlib.Core.Path.{◌≡◌, sym, ap, ◌∙◌, subst}
use mathlib.Core.Bool.{Bool, true, false}
use mathlib.Core.List.{List}
use native.Mathlib.Omega.{arith}
use Rattle.base.specs.Bools.{clash}
use Rattle.image.specs.paper.Book.{Clause}
use Rattle.loops.specs.Records.{records_fit}
use Rattle.loops.specs.declared.clauses.Clauses.{Clauses}
use Rattle.loops.specs.Left.{clause_of, clauses_of}
use Rattle.marks.specs.Marked.{marked}
use Rattle.depends.specs.Before.{depends_on_itself, before, bytes, bytes_first, before_over, before_found, before_pass, free_more}
use Rattle.depends.proofs.before_loop.Invariants.{Free}
use Rattle.depends.proofs.before_loop.Goals as goal
use Rattle.depends.proofs.before_loop.Goals.{then-not-has+else-depends_on_itself, else-not-has}

pub loop-clause-init : goal.loop-clause-init
loop-clause-init c =
    let same = c.into_iter-clause-iterator.ensures.into_iter_gives in
    let t : ℕ → Bool = depends_on_itself (clauses_of c.args.clauses) c.args.clauses.atoms in (
      _,
      _,
      λ q h. clash h (c.none-free.ensures q),
      omega (arith, ap (λ (cs : Clauses). bytes (clauses_of cs)) same),
      omega (arith, ap (λ (cs : Clauses). bytes (before t (clauses_of cs))) same),
    )

pub returns-then-depends_on_itself : goal.returns-then-depends_on_itself
returns-then-depends_on_itself c =
    let t : ℕ → Bool = depends_on_itself (clauses_of c.args.clauses) c.args.clauses.atoms in
    let here = ap t (sym c.head-head.ensures.0) ∙ sym c.depends_on_itself.ensures ∙ c.if-depends_on_itself.true in
    let none = before_found t (clause_of c.in-Some.clause) (clauses_of c.next.new.self) here in
    let left = ap (λ (cs : List Clause). bytes (before t cs)) c.in-Some.ensures.steps in
    omega (arith, none, left, c.loop-clause.invariant.4)

pub overflow_add-passed : goal.overflow_add-passed
overflow_add-passed c =
    let all = c.args.clauses in
    let left = ap bytes c.in-Some.ensures.steps in
    omega (
      arith,
      left,
      bytes_first (clause_of c.in-Some.clause) (clauses_of c.next.new.self),
      c.size-passed.ensures,
      c.loop-clause.invariant.3,
      records_fit all.atoms all.rest.now all.left all.stand,
      c.ranges.clauses.0,
    )

pub loop-clause-preserved : goal.loop-clause-preserved
loop-clause-preserved c =
    let cs : List Clause = clauses_of c.args.clauses in
    let t : ℕ → Bool = depends_on_itself cs c.args.clauses.atoms in
    let d : Clause = clause_of c.in-Some.clause in
    let rest : List Clause = clauses_of c.next.new.self in
    let on : (t c.head-head.result ≡ false) × Free t c.if-not-has.free =
    elim c.if-not-has.branch [
      | then-not-has+else-depends_on_itself w ↦
          let h : t c.head-head.result ≡ false = sym w.depends_on_itself.ensures ∙ w.if-depends_on_itself.false in
          (h, subst (Free t) (sym w.free-is) (free_more t (marked c.loop-clause.free) _ _ w.mark.ensures h c.loop-clause.invariant.2))
      | else-not-has w ↦
          let h : marked c.loop-clause.free c.head-head.result ≡ true = sym c.has.ensures ∙ w.if-not-has.false in
          (c.loop-clause.invariant.2 c.head-head.result h, subst (Free t) (sym w.free-is) c.loop-clause.invariant.2)
    ] in
    let left = ap bytes c.in-Some.ensures.steps in
    let left' = ap (λ (l : List Clause). bytes (before t l)) c.in-Some.ensures.steps in
    let pass = before_pass t d rest (ap t (sym c.head-head.ensures.0) ∙ on.0) in (
      _,
      _,
      on.1,
      omega (arith, left, bytes_first d rest, c.size-passed.ensures, c.loop-clause.invariant.3),
      omega (arith, left', pass, c.size-passed.ensures, c.loop-clause.invariant.4),
    )

pub returns : goal.returns
returns c =
    let t : ℕ → Bool = depends_on_itself (clauses_of c.args.clauses) c.args.clauses.atoms in
    omega (arith, before_over t (clauses_of c.loop-clause.clause-iterator) c.in-None.ensures.steps.0, c.loop-clause.invariant.4)
