-- `depends::spread` meets its contract. Assumes nothing.
use Prim.Native.Nat.{ℕ}
use mathlib.Core.Path.{◌≡◌, sym, ap, ◌∙◌}
use mathlib.Core.Bool.{Bool, true}
use mathlib.Core.List.{List}
use mathlib.Core.Logic.{◌⊎◌, inl, inr}
use Rattle.image.specs.paper.Book.{Clause}
use Rattle.loops.specs.Left.{clause_of, clauses_of}
use Rattle.loops.specs.declared.clauses.Clauses.{Clauses}
use Rattle.marks.specs.Marked.{marked}
use Rattle.depends.specs.Spreading.{spread, follow_leading, follow_other}
use Rattle.depends.specs.Passing.{spread_next, spread_over}
use Rattle.depends.proofs.spread.Goals as goal
use Rattle.depends.proofs.spread.Goals.{then-head-atom-via-then-head-atom, then-head-atom-via-else-head-atom+then-has}

pub loop-clause-init : goal.loop-clause-init
loop-clause-init c =
    (_, _, ap (λ (cs : Clauses). spread (clauses_of cs) c.args.atom (marked c.args.already)) c.into_iter-clause-iterator.ensures.into_iter_gives)

-- a clause that leads on
pub loop-clause-preserved-in-loop-clause : goal.loop-clause-preserved-in-loop-clause
loop-clause-preserved-in-loop-clause c =
    let f : ℕ → Bool = marked c.loop-clause.all in
    let d : Clause = clause_of c.in-Some.clause in
    let leads : (d.head ≡ c.args.atom) ⊎ (f d.head ≡ true) =
    elim c.then-head-atom.branch [
      | then-head-atom-via-then-head-atom w ↦ inl (sym c.head-head.ensures.0 ∙ w.if-head-atom.true)
      | then-head-atom-via-else-head-atom+then-has w ↦ inr (ap f (sym c.head-head.ensures.0) ∙ sym w.has.ensures ∙ w.if-has.true)
    ] in (
      _,
      _,
      sym (spread_next d _ c.args.atom f (marked c.mark_body.new.all) (λ q. c.mark_body.ensures q ∙ sym (follow_leading c.args.atom d f leads q)))
          ∙ ap (λ (cs : List Clause). spread cs c.args.atom f) (sym c.in-Some.ensures.steps)
          ∙ c.loop-clause.invariant.2,
    )

pub loop-clause-preserved : goal.loop-clause-preserved
loop-clause-preserved c =
    let f : ℕ → Bool = marked c.loop-clause.all in
    let d : Clause = clause_of c.in-Some.clause in (
      _,
      _,
      sym (spread_next d _ c.args.atom f f
          (λ q.
          sym (follow_other c.args.atom d f (λ h. c.if-head-atom.false (c.head-head.ensures.0 ∙ h))
          (ap f (sym c.head-head.ensures.0) ∙ sym c.has.ensures ∙ c.if-has.false) q)))
          ∙ ap (λ (cs : List Clause). spread cs c.args.atom f) (sym c.in-Some.ensures.steps)
          ∙ c.loop-clause.invariant.2,
    )

pub returns : goal.returns
returns c =
    λ q. ap (λ (f : ℕ → Bool). f q) (spread_over _ c.args.atom (marked c.loop-clause.all) c.in-None.ensures.steps.0 ∙ c.loop-clause.invariant.2)
